pub mod Fraction
pub mod Bits
pub mod Promise
pub mod Desk
