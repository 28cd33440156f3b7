pub mod LineLemmas
pub mod NumberLemmas
pub mod Parting
pub mod QueueLemmas
pub mod ReadingLemmas
pub mod SearchLemmas
