-- What a reader of the contracts of `call_clean` has to believe.
pub mod Remove
pub mod Vacuum
pub mod Steps
