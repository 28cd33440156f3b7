pub mod Cutting
pub mod ItemList
pub mod Items
pub mod Recut
