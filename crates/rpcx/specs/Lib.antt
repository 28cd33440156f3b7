pub mod Course
pub mod Dumping
pub mod Editing
