pub mod Entries
pub mod Rules
