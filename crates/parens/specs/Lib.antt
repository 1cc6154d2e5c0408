pub mod Trees
pub mod Loading
pub mod Search
pub mod Places
