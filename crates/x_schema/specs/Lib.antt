pub mod Choices
pub mod ProcedureMaking
pub mod ProceduresOf
pub mod Schema
pub mod SchemaMaking
pub mod SchemaOf
pub mod Schemas
pub mod Sound
