pub mod Opened
pub mod Opening
