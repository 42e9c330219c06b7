-- What is read of a table under some names, and the items of a change that put it elsewhere.
use Rattle.std.specs.Prelude.{ℕ, ◌==◌, List, Option, Some, None, if◌then◌else◌}
use Rattle.std.specs.List.{list_any}
use Rattle.std.specs.Str.{bytes_eq}
use Rattle.dates.specs.declared.entry.Entry.{Entry}
use Rattle.points.specs.declared.numbered_row.NumberedRow.{NumberedRow}
use Rattle.points.specs.Texts.{Text}
use Rattle.store.specs.declared.change.ImportedEntry.{ImportedEntry}
use Rattle.store.specs.declared.change.KeptRow.{KeptRow}

-- a table at some names, and elsewhere what stands for nothing
abbrev pub at_names : {A : Type 0} → List Text → (Text → A) → A → Text → A
at_names names table none q = if list_any (λ name. bytes_eq name q) names then table q else none

-- a next number, or what stood there where it is 1, as where none is kept
abbrev pub next_over : ℕ → ℕ → ℕ
next_over next old = if next == 1 then old else next

-- the first, or where it has nothing the second
abbrev pub or_else : {A : Type 0} → Option A → Option A → Option A
or_else None second = second
or_else (Some x) second = Some x

-- a row of a panel, to be kept
abbrev pub row_for : Text → NumberedRow → KeptRow
row_for panel numbered = record { panel = panel; number = numbered.number; row = numbered.row }

-- an entry of a calendar, to be imported
abbrev pub item_for : Text → Entry → ImportedEntry
item_for calendar entry = record { calendar = calendar; entry = entry }
