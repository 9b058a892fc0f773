-- Laws of `theory_walks` for the crates above.
pub mod Paging
pub mod Descending
pub mod Walking
pub mod Looking
pub mod Climbing
