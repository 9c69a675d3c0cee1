pub mod Bytes
pub mod Decimals
pub mod Sorted
pub mod Months
pub mod Short
mod Taking
