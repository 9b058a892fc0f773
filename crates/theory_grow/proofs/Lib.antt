-- Laws of `theory_grow` for the crates above.
pub mod Growing
pub mod Settling
pub mod Cases
pub mod Framing
