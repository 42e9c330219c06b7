pub mod Headline
pub mod Opening
pub mod PointState
pub mod DayReport
pub mod ReportLines
