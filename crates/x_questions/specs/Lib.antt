pub mod Asking
pub mod Completing
pub mod Parts
pub mod Refusing
pub mod Writing
