pub mod Expecting
pub mod NamePlaces
pub mod Parts
pub mod Sizes
pub mod Sought
pub mod Surrounding
pub mod Unparsed
