pub mod CountWalks
pub mod LengthLemmas
pub mod ListLemmas
pub mod PassLemmas
pub mod PatchLemmas
pub mod SeqLemmas
