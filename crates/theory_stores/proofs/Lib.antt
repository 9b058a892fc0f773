-- Laws of `theory_stores` for the crates above.
pub mod Keeping
pub mod Tails
pub mod Viewing
pub mod Making
pub mod Rowing
pub mod Entering
pub mod Stepping
