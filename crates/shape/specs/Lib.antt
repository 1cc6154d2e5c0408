pub mod Bits
pub mod Shape
pub mod Walk
pub mod Stretch
pub mod Packing
pub mod Matching
pub mod Laws
