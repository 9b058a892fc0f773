pub mod Recorded
pub mod Running
pub mod Gathering
pub mod Answering
