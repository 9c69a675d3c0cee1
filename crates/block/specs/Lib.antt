pub mod Numbers
pub mod Blocks
pub mod Faults
pub mod Reading
pub mod Moves
pub mod Promise
pub mod Desk
