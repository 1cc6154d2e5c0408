pub mod Faults
pub mod Reads
pub mod Shown
pub mod Queries
