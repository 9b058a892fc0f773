-- What a reader of the contracts of `row` has to believe.
pub mod Fault
pub mod Read
pub mod Write
pub mod Row
pub mod Exact
pub mod Steps
