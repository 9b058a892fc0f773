-- What a reader of the contracts of `port` has to believe.
pub mod Words
