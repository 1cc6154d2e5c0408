pub mod Selects
pub mod Translate
pub mod Limits
pub mod Claims
