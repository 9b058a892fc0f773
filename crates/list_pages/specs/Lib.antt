-- What a reader of the contracts of `list_pages` has to believe.
pub mod Numbers
pub mod Steps
