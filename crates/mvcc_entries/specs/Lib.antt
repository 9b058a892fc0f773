-- What a reader of the contracts of `mvcc_entries` has to believe.
pub mod Entries
