pub mod Calendars
pub mod Kept
pub mod Rests
pub mod Settled
pub mod Turns
