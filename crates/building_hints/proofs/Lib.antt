pub mod EntryDayLemmas
pub mod SomeBetweenLemmas
pub mod NullListLemmas
pub mod NearestLemmas
pub mod ChangeLemmas
