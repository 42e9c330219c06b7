pub mod LoopLemmas
pub mod NewRowLemmas
pub mod StoreLemmas
