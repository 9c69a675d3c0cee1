pub mod Storing
pub mod Going
pub mod Written
pub mod Judging
pub mod Sizes
pub mod Promise
pub mod Desk
