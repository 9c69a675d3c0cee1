pub mod Labels
pub mod Seconds
pub mod Lengths
pub mod Back
pub mod Promise
