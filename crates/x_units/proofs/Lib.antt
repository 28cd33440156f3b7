pub mod UnitLemmas
