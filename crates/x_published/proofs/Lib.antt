pub mod DiagnosticLemmas
mod PlaceTableLemmas
mod WarningLemmas
mod WritingLemmas
