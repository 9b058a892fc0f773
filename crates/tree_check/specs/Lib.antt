-- What a reader of the contracts of `tree_check` has to believe.
pub mod Check
pub mod Steps
