-- Laws of `theory_check` for the crates above.
pub mod Paging
pub mod Hanging
pub mod Formed
