pub mod Words
pub mod Lines
pub mod Cuts
pub mod Pairs
