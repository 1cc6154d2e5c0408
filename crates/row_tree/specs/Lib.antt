pub mod Loading
pub mod Writing
