pub mod AddedLemmas
pub mod ClockedLemmas
pub mod KnowingLemmas
pub mod TodayLemmas
