-- What a reader of the contracts of `leaf` has to believe.
pub mod Cells
pub mod Rows
pub mod RowFacts
pub mod Find
pub mod FindFacts
pub mod Place
pub mod CutFacts
pub mod Steps
