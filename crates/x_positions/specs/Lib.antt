pub mod Encodings
pub mod LineStarts
pub mod PassedLines
pub mod PositionData
pub mod Positions
pub mod Waymarks
