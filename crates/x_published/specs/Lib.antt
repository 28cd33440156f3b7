pub mod Clients
pub mod Diagnostics
pub mod FaultMessages
pub mod OtherPlaces
pub mod Published
pub mod Unshown
pub mod Warned
