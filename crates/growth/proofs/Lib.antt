pub mod Room
pub mod Growth
pub mod Shown
pub mod Histories
