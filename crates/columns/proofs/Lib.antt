pub mod Lines
pub mod Fields
pub mod Wholes
pub mod Steps
pub mod Decimals
pub mod Promise
