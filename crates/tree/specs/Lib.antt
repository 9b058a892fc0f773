-- What a reader of the contracts of `tree` has to believe.
pub mod Descend
pub mod Chain
pub mod Distinct
pub mod Climb
pub mod ChainFacts
pub mod Lookup
pub mod Create
pub mod Steps
