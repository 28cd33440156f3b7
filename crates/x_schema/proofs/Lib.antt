pub mod KeyedTables
pub mod MakerArms
pub mod MakerForms
pub mod MakerItems
pub mod MakerSteps
pub mod ProcedureLemmas
pub mod SchemaLemmas
