pub mod Directory
pub mod Filling
pub mod Trees
