-- What a reader of the contracts of `inner` has to believe.
pub mod Inner
pub mod Route
