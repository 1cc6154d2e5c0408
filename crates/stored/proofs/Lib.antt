pub mod Subtrees
pub mod Kept
pub mod Passed
pub mod Questions
