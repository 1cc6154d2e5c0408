pub mod Rows
pub mod Heads
pub mod Parsing
pub mod Answers
