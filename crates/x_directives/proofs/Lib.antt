pub mod BetweenLemmas
pub mod BlankedLemmas
pub mod BranchLemmas
pub mod CommentLemmas
pub mod ConditionLemmas
pub mod LineLemmas
pub mod PlainLemmas
