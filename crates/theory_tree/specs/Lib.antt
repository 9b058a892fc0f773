-- What a reader of the theorems about trees has to believe.
pub mod Pages
pub mod View
pub mod Shape
pub mod Versions
