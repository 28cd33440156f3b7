pub mod Checking
pub mod ClashLemmas
pub mod Outputs
