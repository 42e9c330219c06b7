-- The rows that a panel may still repeat or use: these go along with a copy.
use Rattle.std.specs.Prelude.{ℕ, ◌+◌, ◌-◌, Bool, ◌&&◌, nat_lt, nat_le, None, if◌then◌else◌}
use Rattle.points.specs.declared.numbered_row.TheConstants.{LAST_NUMBER}
use Rattle.points.specs.Run.{Rows}
use Rattle.store.specs.Tables.{Tables}

-- a number that a panel with this next number may still use or repeat: of the 1,000 below it, or of its window of 64
abbrev pub is_remembered : ℕ → ℕ → Bool
is_remembered next number = nat_le (next - 1000) number && (nat_lt number (next + 64) && nat_lt number (LAST_NUMBER + 1))

abbrev pub remembered_row : ℕ → Rows → Rows
remembered_row next rows number = if is_remembered next number then rows number else None

-- tables with these rows alone
abbrev pub remembered : Tables → Tables
remembered tables = record tables { row = λ panel. remembered_row (tables.next panel) (tables.row panel) }
