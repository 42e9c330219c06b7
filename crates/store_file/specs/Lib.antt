pub mod Begun
pub mod Closed
pub mod Lost
