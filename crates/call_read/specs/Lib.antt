-- What a reader of the contracts of `call_read` has to believe.
pub mod Create
pub mod Find
pub mod Conflict
pub mod Check
pub mod Listings
pub mod Numbers
pub mod Scan
pub mod Facts
