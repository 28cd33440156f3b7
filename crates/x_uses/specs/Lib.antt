pub mod Occurrences
pub mod Slots
