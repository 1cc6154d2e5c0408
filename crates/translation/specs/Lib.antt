pub mod Translation
pub mod Table
pub mod Written
pub mod Claims
