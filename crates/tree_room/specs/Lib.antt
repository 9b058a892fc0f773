-- What a reader of the contracts of `tree_room` has to believe.
pub mod Room
pub mod Up
