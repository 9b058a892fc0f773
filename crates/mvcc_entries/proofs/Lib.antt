pub mod Laws
pub mod Judging
