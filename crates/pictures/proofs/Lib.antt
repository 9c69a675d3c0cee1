pub mod Spelling
pub mod Fraction
pub mod Filled
pub mod Patterns
pub mod Promise
pub mod Sorted
