-- Laws of `tree_check` for its own proofs and for the crates above.
pub mod Parting
pub mod Linking
pub mod Checking
