-- What a reader of the contracts of `tree_stamp` has to believe.
pub mod Target
pub mod Stamp
pub mod Ready
pub mod Steps
