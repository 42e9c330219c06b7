pub mod LawLemmas
pub mod EventLemmas
pub mod BeginLemmas
pub mod RunLemmas
pub mod SettleLemmas
pub mod TurnLemmas
pub mod NextLemmas
pub mod JoinLemmas
