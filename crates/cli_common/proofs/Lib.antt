pub mod PrintedLemmas
pub mod ReadingLemmas
