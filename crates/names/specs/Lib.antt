pub mod Names
pub mod Store
pub mod Claims
