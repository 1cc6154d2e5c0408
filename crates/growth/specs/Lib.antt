pub mod Faults
pub mod Steps
pub mod Store
pub mod Commands
pub mod Holding
pub mod Claims
