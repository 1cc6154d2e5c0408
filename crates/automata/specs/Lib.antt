pub mod Program
pub mod Claims
