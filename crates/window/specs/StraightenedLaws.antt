-- What straightening one ask keeps.
use Rattle.std.specs.Prelude.{◌≡◌}
use Rattle.window.specs.Applied.{applied}
use Rattle.window.specs.Taken.{Ask, Taken, front, take, taken}
use Rattle.window.specs.Between.{asks_between}
use Rattle.window.specs.Straight.{AreNext, IsStraight, applied_by}
use Rattle.window.specs.Straightened.{straightened}

-- What one ask becomes leads a panel that is straight to where the ask leads: none of it needs a tolerance, it acts
-- on the same commands in the same order, and the panel is straight again.
pub record WalksStraight (straight before now : Taken) : Type 0 where
  pub next : AreNext straight (straightened before now)
  pub applies : applied_by straight (straightened before now) ≡ applied before now
  pub stays : IsStraight (taken straight (straightened before now)) now

abbrev pub WalkStaysStraight : Type 0
WalkStaysStraight = (straight before : Taken) (ask : Ask) → IsStraight straight before
    → WalksStraight straight before (take before ask)

-- what one ask becomes is a walk over the contents that it applies
abbrev pub StraightenedByContents : Type 0
StraightenedByContents = (before : Taken) (ask : Ask) → straightened before (take before ask)
    ≡ asks_between (front before) (applied before (take before ask)) (front (take before ask))
