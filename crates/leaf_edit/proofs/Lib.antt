pub mod Editing
pub mod EditFacts
