pub mod Begin
pub mod Keeping
pub mod Telling
pub mod Walking
pub mod Other
