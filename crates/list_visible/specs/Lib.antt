-- What a reader of the contracts of `list_visible` has to believe.
pub mod Visible
pub mod Steps
