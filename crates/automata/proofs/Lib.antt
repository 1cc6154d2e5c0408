pub mod Low
pub mod Solutions
pub mod Falls
pub mod Agrees
