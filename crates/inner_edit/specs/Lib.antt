-- What a reader of the contracts of `inner_edit` has to believe.
pub mod Edit
pub mod Facts
pub mod Steps
