pub mod ClockNames
pub mod KnownLemmas
pub mod OpeningLemmas
pub mod RunLemmas
pub mod ReportLemmas
pub mod SegmentLemmas
pub mod WeekdayLemmas
