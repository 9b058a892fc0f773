-- What a reader of the contracts of `call_insert` has to believe.
pub mod Insert
