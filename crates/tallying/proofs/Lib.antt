pub mod Marks
pub mod Stages
pub mod Same
pub mod Lists
pub mod Bits
