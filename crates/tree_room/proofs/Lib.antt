-- Laws of `tree_room` for its own proofs and for the crates above.
pub mod Rooming
pub mod Keeping
