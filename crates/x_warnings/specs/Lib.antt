pub mod WarningLines
pub mod Warnings
