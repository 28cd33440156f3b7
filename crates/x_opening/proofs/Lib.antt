pub mod Before
pub mod Passing
pub mod Unopened
