pub mod ChangedDays
pub mod EntryDays
pub mod NullLists
pub mod HintLines
pub mod Hints
pub mod ListHints
