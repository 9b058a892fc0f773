-- Laws of `tree_stamp` for its own proofs and for the crates above.
pub mod Meeting
pub mod Sums
pub mod Cutting
pub mod Counting
pub mod Planning
pub mod Storing
