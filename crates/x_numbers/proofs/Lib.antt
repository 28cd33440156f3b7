pub mod Digits
pub mod Lookups
