-- What a reader of the contracts of `tree_insert` has to believe.
pub mod Spot
pub mod Insert
pub mod Ready
pub mod Steps
