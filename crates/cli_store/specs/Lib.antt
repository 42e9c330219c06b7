pub mod Answered
pub mod Listening
pub mod Reported
pub mod Foretold
pub mod Guarded
pub mod Keeper
pub mod Otherwise
pub mod Recorded
