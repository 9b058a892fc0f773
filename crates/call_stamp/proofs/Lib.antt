-- Laws of the calls that stamp.
pub mod Stamping
pub mod Calls
