-- Laws of `row` for its own proofs and for the crates above.
pub mod Reading
pub mod Writing
pub mod Exact
