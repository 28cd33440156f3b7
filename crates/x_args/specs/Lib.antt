pub mod Answering
pub mod Args
pub mod BaseNames
pub mod Status
pub mod Telling
