pub mod Adding
pub mod Cases
pub mod Columns
pub mod Edits
pub mod Listing
