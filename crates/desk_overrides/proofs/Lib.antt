pub mod LookLemmas
pub mod WatchLemmas
pub mod WatchingLemmas
