pub mod Loads
pub mod Stages
pub mod Turns
pub mod Bits
pub mod Laws
pub mod Picks
pub mod Seen
