-- What a reader of the contracts of `tree_grow` has to believe.
pub mod Path
pub mod Grow
pub mod Plan
pub mod Steps
