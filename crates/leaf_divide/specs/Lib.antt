-- What a reader of the contracts of `leaf_divide` has to believe.
pub mod Divide
pub mod DivideFacts
