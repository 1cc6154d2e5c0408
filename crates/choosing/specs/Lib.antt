pub mod Printed
pub mod Choosing
