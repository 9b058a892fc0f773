-- What is proved of the calls as a whole, and the words in which it is said.
pub mod Refusals
pub mod Trees
pub mod Change
pub mod Meant
pub mod Demand
pub mod Reads
pub mod Example
pub mod Frame
pub mod Cases
