pub mod ReadLemmas
pub mod RowLemmas
pub mod TextLemmas
pub mod StoodLemmas
