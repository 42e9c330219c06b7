pub mod DividedLemmas
pub mod PlaceLemmas
