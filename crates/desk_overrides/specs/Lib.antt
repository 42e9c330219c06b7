pub mod Overrides
pub mod Lines
pub mod Watched
