pub mod Row
pub mod Rows
pub mod Deciding
pub mod Judged
pub mod Printing
pub mod Promise
