-- Laws of the calls for C.
pub mod Changing
pub mod Giving
