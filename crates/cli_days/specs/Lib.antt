pub mod DayLines
pub mod Listed
pub mod RangeDays
pub mod Speaking
pub mod TimeValues
pub mod Words
