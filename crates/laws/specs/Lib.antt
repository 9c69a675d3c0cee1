pub mod Tests
pub mod Order
pub mod Placed
pub mod Settles
