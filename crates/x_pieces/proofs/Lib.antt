pub mod HeaderLemmas
pub mod LengthLemmas
pub mod PartLemmas
pub mod PartingLemmas
pub mod PieceListLemmas
pub mod VoidLemmas
