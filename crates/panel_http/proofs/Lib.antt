pub mod GatheringLemmas
pub mod MoreLemmas
pub mod ServingLemmas
pub mod CharacterEndings
pub mod HeadEndings
pub mod HeadLemmas
pub mod SectionEndings
pub mod NumberLemmas
pub mod ValueLemmas
pub mod PartLemmas
mod ComeLemmas
pub mod MethodLemmas
mod WholeInputLemmas
pub mod WholeLemmas
mod WrittenBodyLemmas
pub mod PlaceLemmas
