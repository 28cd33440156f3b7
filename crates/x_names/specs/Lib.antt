pub mod DeclarerTable
pub mod Declarers
