-- What a writer that may fail has taken of a text, and how often it has failed.
use Rattle.std.specs.Prelude.{ℕ, List, Option}
use Rattle.points.specs.Beginnings.{AppendsStart}
use Rattle.store.specs.Standing.{HasRisen}

-- a beginning of the text was appended, and the writer's count has risen
pub record Lost (old new : Option (List ℕ)) (text : List ℕ) (before after : ℕ) : Type 0 where
  pub start : AppendsStart old new text
  pub risen : HasRisen before after
