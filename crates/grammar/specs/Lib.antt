pub mod Grammar
pub mod Places
