pub mod CancelLemmas
mod Choices
mod FrameLemmas
mod HalfLemmas
pub mod JsonLemmas
pub mod TextLemmas
