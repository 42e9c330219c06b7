pub mod Input
pub mod RunFault
pub mod Status
