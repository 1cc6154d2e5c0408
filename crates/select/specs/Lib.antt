pub mod Faults
pub mod Selecting
