pub mod Places
pub mod Spread
