-- What a reader of the answers of all calls has to believe.
pub mod Names
pub mod Answer
