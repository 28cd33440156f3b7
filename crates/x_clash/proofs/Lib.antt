pub mod FirstLemmas
pub mod SearchLemmas
pub mod TypeLemmas
