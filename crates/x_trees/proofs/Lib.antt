pub mod AmongLemmas
pub mod CollectLemmas
pub mod GlossLemmas
pub mod GlossaryLemmas
pub mod Rows
