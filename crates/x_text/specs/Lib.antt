pub mod Buffers
pub mod Counts
pub mod Edits
pub mod Limits
pub mod Text
