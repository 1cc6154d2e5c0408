pub mod Facts
pub mod Decided
pub mod Loaded
