pub mod Parts
pub mod Text
pub mod Marks
pub mod Promise
pub mod Desk
