pub mod Following
pub mod Lacking
pub mod Moves
pub mod Planned
pub mod Rendered
pub mod inside
