pub mod Risen
pub mod Adds
pub mod Fallen
pub mod Marked
pub mod Lengths
pub mod Idle
pub mod Sends
