-- Laws of `tree_insert` for its own proofs and for the crates above.
pub mod Spotting
pub mod Cutting
pub mod Planning
pub mod Storing
pub mod Answering
