-- What a reader of the contracts of `call_stamp` has to believe.
pub mod Mark
pub mod Claim
pub mod Steps
