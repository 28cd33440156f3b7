mod DeclarerLemmas
mod LookupLemmas
mod NamePlaceLemmas
mod SizeLemmas
mod UnparsedLemmas
