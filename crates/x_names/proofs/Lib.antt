pub mod DeclarerLaws
pub mod NameLemmas
