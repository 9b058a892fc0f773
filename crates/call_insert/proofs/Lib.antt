-- Laws of `call_insert` for its own proofs.
pub mod Calls
