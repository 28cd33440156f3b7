pub mod DeclaredNames
pub mod FaultLines
pub mod Foreign
pub mod ItemWalks
pub mod Session
pub mod Typed
pub mod Work
