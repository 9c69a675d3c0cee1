pub mod Answers
pub mod Exactly
pub mod Writing
pub mod Back
pub mod Sorted
pub mod Promise
pub mod Desk
