pub mod NumberLemmas
pub mod RosterLemmas
