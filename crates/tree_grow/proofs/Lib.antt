-- Laws of `tree_grow` for its own proofs and for the crates above.
pub mod Entering
pub mod Pinning
pub mod Planning
pub mod Likeness
pub mod Halving
pub mod Stepping
pub mod Framing
