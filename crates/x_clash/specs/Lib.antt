pub mod Clashes
pub mod Firsts
pub mod Given
pub mod Parts
pub mod Table
pub mod Views
