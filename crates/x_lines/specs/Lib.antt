pub mod Limits
pub mod Lines
pub mod Numbers
