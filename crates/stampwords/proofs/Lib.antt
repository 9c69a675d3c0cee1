pub mod Stamps
pub mod Moves
pub mod Spans
