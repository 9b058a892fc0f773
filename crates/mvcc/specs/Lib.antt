-- What a reader of the contracts of `mvcc` has to believe.
pub mod Lists
pub mod Snapshot
pub mod Rules
pub mod Vacuum
pub mod Facts
pub mod Steps
