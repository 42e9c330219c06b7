pub mod EntryLemmas
pub mod FillLemmas
pub mod NameLemmas
pub mod RowLemmas
pub mod PlaceLemmas
pub mod WholeLemmas
