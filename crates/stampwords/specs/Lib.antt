pub mod Stamps
pub mod Spans
pub mod Moves
