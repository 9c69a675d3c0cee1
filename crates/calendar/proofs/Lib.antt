pub mod Days
pub mod Guess
pub mod Years
