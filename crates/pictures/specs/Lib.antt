pub mod Pictures
pub mod Parts
pub mod Reading
pub mod Promise
