-- What a reader of the contracts of `store` has to believe.
pub mod Pick
pub mod Le
pub mod Part
