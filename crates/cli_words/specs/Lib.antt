pub mod ArgFault
pub mod Line
