pub mod OneLineLemmas
