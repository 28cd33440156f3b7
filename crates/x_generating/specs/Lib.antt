pub mod Checking
pub mod Generate
pub mod Outputs
pub mod Warnings
