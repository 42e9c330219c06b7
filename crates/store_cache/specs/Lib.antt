pub mod Free
pub mod Known
pub mod Recalled
pub mod Remembering
