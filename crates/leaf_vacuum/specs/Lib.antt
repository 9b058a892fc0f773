-- What a reader of the contracts of `leaf_vacuum` has to believe.
pub mod Vacuum
pub mod Steps
