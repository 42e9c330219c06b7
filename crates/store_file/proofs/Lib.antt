pub mod BeginLemmas
pub mod ClosingLemmas
