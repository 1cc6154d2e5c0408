pub mod Names
mod Trees
mod Deciding
mod Sending
pub mod Limits
pub mod Accepted
pub mod Theorem
