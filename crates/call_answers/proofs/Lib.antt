-- Laws of `call_answers`.
pub mod Answers
