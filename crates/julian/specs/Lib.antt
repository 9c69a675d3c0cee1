pub mod Midnight
pub mod Dates
pub mod Marks
pub mod Promise
pub mod Desk
