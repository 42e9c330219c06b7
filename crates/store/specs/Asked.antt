-- What a read asks of a store, and which rows it may tell of that cannot stand.
use Rattle.std.specs.Prelude.{◌≡◌, ℕ, ◌≤◌, ◌<◌, ◌⊎◌, Bool, Option, Some, None, IsSome}
use Rattle.std.specs.Bool.{IsTrue}
use Rattle.points.specs.Run.{Rows}
use Rattle.store.specs.declared.fault.StoreFault.{StoreFault}
use Rattle.store.specs.declared.fault.StoreFault.TheVariants.{BadRow}
use Rattle.store.specs.Change.{IsNumber}
use Rattle.points.specs.Texts.{Text}

-- the rows that a read asks for
pub data Asked : Type 0 where
  -- a panel's next number
  NextOf : (panel : Text) → Asked
  -- a panel's row under a number
  RowOf : (panel : Text) → (number : ℕ) → Asked
  -- a point's places
  ArrayOf : (point : Text) → Asked
  -- what a schedule shows
  ShownBy : (schedule : Text) → Asked
  -- a calendar's entries
  EntriesOf : (calendar : Text) → Asked
  -- the last tick
  LastTick : Asked
  -- the names in all tables, and that a panel's rows are numbered from 1
  AnyName : Asked

-- S5 is reported where, and only where, a row that was asked for cannot stand
pub record Judges (broken : Type 0) (fault : Option StoreFault) : Type 0 where
  pub bad : fault ≡ Some BadRow → broken
  pub stood : fault ≡ None → broken → ⊥

-- the numbers that a run asks for: those below `upto`, and from there on up to the first that has no row
pub record IsInRun (rows : Rows) (from upto number : ℕ) : Type 0 where
  pub after : from ≤ number
  pub near : (number < upto) ⊎ ((before : ℕ) → upto ≤ before → before < number → IsSome (rows before))

-- a row under a number of a command cannot stand
abbrev pub IsBrokenRow : (Asked → Bool) → Text → ℕ → Type 0
IsBrokenRow cannot_stand panel number = IsNumber number × IsTrue (cannot_stand (RowOf panel number))

-- a row that a run asks for cannot stand
abbrev pub IsBrokenRun : (Asked → Bool) → Rows → Text → ℕ → ℕ → Type 0
IsBrokenRun cannot_stand rows panel from upto = (number : ℕ) × IsInRun rows from upto number × IsBrokenRow cannot_stand panel number

-- some row that can be asked for cannot stand
abbrev pub IsSomeBroken : (Asked → Bool) → Type 0
IsSomeBroken cannot_stand = (asked : Asked) × IsTrue (cannot_stand asked)
