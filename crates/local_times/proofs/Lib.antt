pub mod ClockLemmas
pub mod DateLemmas
