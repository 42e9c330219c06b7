-- A date range: the days from its start to its end, each a day or unspecified.
use Rattle.std.specs.Prelude.{Bool, true, ◌&&◌, ◌++◌, int_le, codes, Option, Some, None, Result, Ok, if◌then◌else◌}
use Rattle.std.specs.Str.{bytes_eq}
use Rattle.jiff_core.specs.Date.{epoch_day}
use Rattle.jiff_core.specs.declared.civil.date.Date.{Date}
use Rattle.dates.specs.declared.range.Range.{Range}
use Rattle.dates.specs.declared.entry_fault.EntryFault.{EntryFault}
use Rattle.dates.specs.DateFields.{full_date_at}
use Rattle.dates.specs.Day.{IsOfYears, day_text}
use Rattle.points.specs.FaultSteps.{◌>>=◌}
use Rattle.points.specs.Texts.{Text}

-- the years are in range
abbrev pub IsRangeEnd : Option Date → Type 0
IsRangeEnd None = Unit {0}
IsRangeEnd (Some day) = IsOfYears day

abbrev pub IsRange : Range → Type 0
IsRange r = IsRangeEnd r.start × IsRangeEnd r.end

-- the days at or after the start, if there is one
abbrev pub is_from : Option Date → Date → Bool
is_from None day = true
is_from (Some start) day = int_le (epoch_day start) (epoch_day day)

-- the days at or before the end, if there is one
abbrev pub is_up_to : Option Date → Date → Bool
is_up_to None day = true
is_up_to (Some end) day = int_le (epoch_day day) (epoch_day end)

-- the days from the start to the end
abbrev pub in_range : Range → Date → Bool
in_range r day = is_from r.start day && is_up_to r.end day

-- a full date, or none
unfoldable pub range_end_at : Text → Result (Option Date) EntryFault
range_end_at text =
    if bytes_eq text (codes "*") then Ok None else (full_date_at text >>= λ date. Ok (Some date))

-- the two ends
unfoldable pub range_at : Text → Text → Result Range EntryFault
range_at left right = do
  start ← range_end_at left
  end ← range_end_at right
  Ok (record { start = start; end = end })

abbrev pub range_end_text : Option Date → Text
range_end_text None = codes "*"
range_end_text (Some day) = day_text day

-- A..B
abbrev pub range_text : Range → Text
range_text r = range_end_text r.start ++ (codes ".." ++ range_end_text r.end)
