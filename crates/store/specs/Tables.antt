-- The tables of a store: places, next numbers, command rows, shown values, imported entries, last tick.
use Rattle.std.specs.Prelude.{ℕ, Bool, false, None, Option, ℤ}
use Rattle.std.specs.FinMap.{empty}
use Rattle.points.specs.PriorityArray.{Places}
use Rattle.points.specs.Run.{Rows}
use Rattle.points.specs.Texts.{Text}

-- what the six tables hold
pub record Tables : Type 0 where
  -- the values in the places of each point
  pub places : Text → Places
  -- the next number of each panel: 1 where nothing is kept
  pub next : Text → ℕ
  -- the rows of each panel's commands
  pub row : Text → Rows
  -- what each schedule shows: a value or NULL, or nothing where it is quiet
  pub shown : Text → Option (Option ℤ)
  -- whether an entry of this text is imported into each calendar
  pub imported : Text → Text → Bool
  -- the moment of the last tick
  pub last_tick : Option ℤ

-- tables that hold nothing
abbrev pub no_tables : Tables
no_tables = record {
  places = λ point. empty;
  next = λ panel. 1;
  row = λ panel number. None;
  shown = λ schedule. None;
  imported = λ calendar text. false;
  last_tick = None;
}
