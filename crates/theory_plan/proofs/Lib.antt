-- Laws of `theory_plan` for the crates above.
pub mod Paths
pub mod Linking
pub mod Rooms
pub mod Sides
pub mod Leaves
pub mod Stamps
