pub mod Dividing
pub mod DivideFacts
