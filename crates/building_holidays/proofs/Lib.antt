pub mod FieldLemmas
pub mod ListLemmas
pub mod RecordLemmas
