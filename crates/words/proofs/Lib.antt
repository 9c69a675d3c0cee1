pub mod Words
pub mod Laid
