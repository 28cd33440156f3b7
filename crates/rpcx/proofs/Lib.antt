pub mod Dumping
pub mod Editing
