pub mod FaultTexts
pub mod Reading
pub mod Stuck
pub mod Symbols
