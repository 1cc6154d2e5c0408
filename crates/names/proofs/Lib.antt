pub mod Stores
pub mod Labels
pub mod Slots
