-- What a cell of a table says.
use Rattle.std.specs.Prelude.{ℕ, nat_le, ◌&&◌, if◌then◌else◌, Bool, false, true, nat_lt, List, Option, Some, None, ℤ, pos, negsuc, Result, Ok, Err, bytes_eq, ◌==◌}
use Rattle.sqlite_value.specs.declared.value.Value.{Value}
use Rattle.sqlite_value.specs.declared.value.Value.TheVariants.{Null, Int, Text}
use Rattle.dates.specs.declared.entry.Entry.{Entry}
use Rattle.dates.specs.declared.entry_fault.EntryFault.{EntryFault}
use Rattle.dates.specs.Entry.{reading}
use Rattle.points.specs.Name.{is_name}

-- the cell has this text
abbrev pub is_text : List ℕ → Value → Bool
is_text text (Text t) = bytes_eq text t
is_text text _ = false

-- the cell has this number
abbrev pub is_count : ℕ → Value → Bool
is_count count (Int (pos n)) = count == n
is_count count _ = false

-- the cell has a number below this one
abbrev pub is_below : ℕ → Value → Bool
is_below count (Int (pos n)) = nat_lt n count
is_below count (Int (negsuc n)) = true
is_below count _ = false

-- the name in a cell
abbrev pub name_in : Value → Option (List ℕ)
name_in (Text t) = if is_name t then Some t else None
name_in _ = None

-- the number in a cell that lies between two
abbrev pub count_in : ℕ → ℕ → Value → Option ℕ
count_in least greatest (Int (pos n)) = if nat_le least n && nat_le n greatest then Some n else None
count_in least greatest _ = None

-- the number in a cell
abbrev pub number_in : Value → Option ℤ
number_in (Int n) = Some n
number_in _ = None

-- the number in a cell, or NULL
abbrev pub optional_in : Value → Option (Option ℤ)
optional_in Null = Some None
optional_in (Int n) = Some (Some n)
optional_in _ = None

abbrev pub entry_of : Result Entry EntryFault → Option Entry
entry_of (Ok entry) = Some entry
entry_of (Err fault) = None

-- the entry that a cell spells
abbrev pub entry_in : Value → Option Entry
entry_in (Text t) = entry_of (reading t)
entry_in _ = None

-- the cell of a number, or of NULL
abbrev pub cell_of : Option ℤ → Value
cell_of None = Null
cell_of (Some n) = Int n
