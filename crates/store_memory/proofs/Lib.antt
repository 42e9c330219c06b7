pub mod EntryLemmas
pub mod HeldLemmas
pub mod NameLemmas
pub mod PanelLemmas
pub mod RowSlotLemmas
pub mod StandLemmas
pub mod TextLemmas
