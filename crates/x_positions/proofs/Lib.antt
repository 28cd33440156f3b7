mod Choices
mod LineLemmas
mod MarkLemmas
mod PassedLineLemmas
mod PositionLemmas
mod SpotLemmas
mod WalkLemmas
