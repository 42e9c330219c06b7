pub mod PlacesLemmas
pub mod ContentLemmas
pub mod RunLemmas
pub mod NameLemmas
pub mod NameIndexLemmas
pub mod KeyLemmas
