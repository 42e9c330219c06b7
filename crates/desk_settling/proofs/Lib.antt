pub mod HoldLemmas
pub mod StepLemmas
pub mod ValueLemmas
pub mod KeptLemmas
pub mod RestLemmas
pub mod TurnLemmas
