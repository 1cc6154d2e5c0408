pub mod Pick
pub mod Cases
pub mod History
pub mod Views
pub mod Law
pub mod Bits
