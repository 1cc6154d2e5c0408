pub mod Got
pub mod Decided
pub mod Written
