-- What a reader of the contracts of `leaf_edit` has to believe.
pub mod Edit
pub mod EditFacts
pub mod Steps
