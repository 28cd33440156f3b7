pub mod Meant
pub mod Places
pub mod Showing
