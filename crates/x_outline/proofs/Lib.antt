pub mod BodyWalkLemmas
pub mod MemberWalkLemmas
