pub mod Editing
pub mod Staleness
pub mod inside
