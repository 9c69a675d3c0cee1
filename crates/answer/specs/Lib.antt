pub mod Refusals
pub mod Marks
pub mod Faults
pub mod Buffers
pub mod Promise
