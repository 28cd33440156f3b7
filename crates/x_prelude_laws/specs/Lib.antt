pub mod AsOne
pub mod Over
pub mod Plain
pub mod Wholes
