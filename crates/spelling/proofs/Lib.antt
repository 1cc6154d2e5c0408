pub mod Shapes
pub mod Slices
pub mod Whole
pub mod Writes
