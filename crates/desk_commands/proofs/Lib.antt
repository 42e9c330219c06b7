pub mod ActedLemmas
pub mod CarryLemmas
pub mod CommandLemmas
pub mod DeliverLemmas
pub mod PlannedLemmas
pub mod ViewLemmas
