-- Laws of `inner_edit` for its own proofs and for the crates above.
pub mod Lists
pub mod Editing
pub mod Dividing
pub mod Facts
