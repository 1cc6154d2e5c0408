pub mod Takes
pub mod Readings
pub mod Files
