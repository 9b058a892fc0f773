-- What a reader of the contracts of `list_versions` has to believe.
pub mod Gather
pub mod Listed
pub mod Steps
