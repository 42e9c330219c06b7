pub mod CollectLemmas
pub mod CutLemmas
pub mod LineLemmas
pub mod ReplayLemmas
pub mod StopLemmas
pub mod StraightenLemmas
pub mod FloatLemmas
pub mod ExplainedLemmas
