pub mod Clock
pub mod Marks
pub mod Promise
