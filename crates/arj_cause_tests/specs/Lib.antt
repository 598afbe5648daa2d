pub mod Answers
pub mod Followed
