pub mod Writing
pub mod Spellings
pub mod Answers
