-- Laws of the reading calls.
pub mod Calls
pub mod Emptiness
