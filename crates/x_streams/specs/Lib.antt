pub mod Counters
pub mod Engines
pub mod Memory
pub mod Streams
pub mod Writing
