pub mod LocalTimes
pub mod ZoneRule
