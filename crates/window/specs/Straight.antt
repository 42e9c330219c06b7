-- How a panel after the straight list stands to the same panel after the list.
use Rattle.std.specs.Prelude.{◌≡◌, ℕ, ◌<◌, ◌≤◌, ◌++◌, true, List, [], ◌∷◌, None}
use Rattle.window.specs.declared.numbered_content.NumberedContent.{NumberedContent}
use Rattle.window.specs.Applied.{applied}
use Rattle.window.specs.Taken.{Ask, Command, Skip, Taken, content_at, front, take, accepts_skip}

-- the same front, the same contents below it, and nothing from it on: what is parked comes at the end
pub record IsStraight (straight now : Taken) : Type 0 where
  pub next : front straight ≡ front now
  pub below : (number : ℕ) → number < front now → content_at straight number ≡ content_at now number
  pub from : (number : ℕ) → front now ≤ number → content_at straight number ≡ None

-- an ask that needs no tolerance: a command of the next number, or a skip that moves it
abbrev pub IsNext : Taken → Ask → Type 0
IsNext before (Command number content) = number ≡ front before
IsNext before (Skip upto) = accepts_skip before upto ≡ true

abbrev pub AreNext : Taken → List Ask → Type 0
AreNext before [] = Unit {0}
AreNext before (ask ∷ asks) = IsNext before ask × AreNext (take before ask) asks

-- the commands that asks have acted on, one after the other
abbrev pub applied_by : Taken → List Ask → List NumberedContent
applied_by before [] = []
applied_by before (ask ∷ asks) = applied before (take before ask) ++ applied_by (take before ask) asks
