pub mod Lines
pub mod Columns
pub mod Decimals
pub mod Promise
