pub mod Rows
pub mod Answers
pub mod Lawful
pub mod Excerpts
pub mod Claims
