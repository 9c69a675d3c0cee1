pub mod Days
pub mod Rule
pub mod Promise
pub mod Beside
