pub mod Requests
pub mod Wording
pub mod Summary
