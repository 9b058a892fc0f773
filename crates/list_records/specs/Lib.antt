-- What a reader of the contracts of `list_records` has to believe.
pub mod Records
pub mod Listed
