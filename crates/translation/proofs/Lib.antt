pub mod Reaching
pub mod Says
pub mod Codes
pub mod Written
pub mod Translations
pub mod Chains
pub mod Parts
pub mod States
