mod ChosenLemmas
mod HeardLemmas
mod PlacedLemmas
pub mod SilentLemmas
pub mod ToldLemmas
