-- What a reader of the contracts of `test_text` has to believe.
pub mod Cut
