pub mod Lexing
pub mod Readers
