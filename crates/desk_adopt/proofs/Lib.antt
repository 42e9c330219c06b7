pub mod OwnLemmas
pub mod ItemLemmas
pub mod PlaceLemmas
pub mod SuitLemmas
mod RenamingLemmas
pub mod PlaceFindings
pub mod ReadLemmas
pub mod SurveyLemmas
