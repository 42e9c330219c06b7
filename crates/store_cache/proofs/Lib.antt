pub mod FreeLemmas
pub mod KnownLemmas
pub mod RememberLemmas
