-- Laws of `theory_clean` for the crates above.
pub mod Changing
pub mod Removing
pub mod Vacuuming
pub mod Framing
