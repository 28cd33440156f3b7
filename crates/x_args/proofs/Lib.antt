pub mod BaseNameLemmas
pub mod Checks
pub mod Commands
pub mod Filled
pub mod Grown
