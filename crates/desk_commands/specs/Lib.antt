pub mod Carried
pub mod Planned
pub mod Views
pub mod Written
