pub mod Meaning
pub mod Moment
