pub mod Bodies
pub mod BodyWalks
pub mod MemberWalks
pub mod Outlines
pub mod Parts
