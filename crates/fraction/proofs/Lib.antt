pub mod Fraction
pub mod Rounding
pub mod Division
pub mod Promise
pub mod Desk
pub mod Pattern
pub mod Halves
pub mod Reading
