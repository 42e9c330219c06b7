pub mod AnsweredLemmas
pub mod GuardedLemmas
pub mod RecordedLemmas
