-- Laws of remove and vacuum.
pub mod Counting
pub mod Storing
pub mod Calls
