pub mod BeforeLemmas
pub mod DefinitionLemmas
pub mod FirstLemmas
pub mod ForeignLemmas
pub mod LackingLemmas
pub mod LeadingLemmas
pub mod ReachingLemmas
pub mod TypeLemmas
