-- What a reader of the theorems of `theory_grow` has to believe.
pub mod Rooted
