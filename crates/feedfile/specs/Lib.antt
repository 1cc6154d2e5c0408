pub mod Faults
pub mod Bytes
pub mod Reading
pub mod Files
pub mod Claims
