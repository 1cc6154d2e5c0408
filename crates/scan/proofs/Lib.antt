pub mod Blocks
pub mod Decided
