-- An entry: the days that it holds on (ANSI/ASHRAE 135-2016, clause 21), and the one text that spells it.
use Rattle.std.specs.Prelude.{◌≡◌, Bool, codes, Result, Ok}
use Rattle.std.specs.Option.{option_map_or}
use Rattle.jiff_core.specs.declared.civil.date.Date.{Date}
use Rattle.dates.specs.declared.entry.Entry.{Entry}
use Rattle.dates.specs.declared.entry.Entry.TheVariants.{Pattern, Range, WeekNDay}
use Rattle.dates.specs.declared.entry_fault.EntryFault.{EntryFault}
use Rattle.points.specs.FaultSteps.{◌>>=◌}
use Rattle.dates.specs.Notation.{cut_at, without_prefix}
use Rattle.points.specs.Texts.{Text}
use Rattle.dates.specs.Pattern.{IsPattern, in_pattern, pattern_at, pattern_text}
use Rattle.dates.specs.Range.{IsRange, in_range, range_at, range_text}
use Rattle.dates.specs.WeekNDay.{IsWeekNDay, in_week_n_day, week_n_day_at, week_n_day_text}

-- the numbers are in range, as those of each value that the program holds
abbrev pub IsEntry : Entry → Type 0
IsEntry (Pattern pattern) = IsPattern pattern
IsEntry (Range range) = IsRange range
IsEntry (WeekNDay week_n_day) = IsWeekNDay week_n_day

-- the days of an entry, as the test of its members
unfoldable pub holds_on : Entry → Date → Bool
holds_on (Pattern pattern) day = in_pattern pattern day
holds_on (Range range) day = in_range range day
holds_on (WeekNDay week_n_day) day = in_week_n_day week_n_day day

-- a text that does not begin with `wnd:`
unfoldable pub dates_at : Text → Result Entry EntryFault
dates_at text = option_map_or (λ ends. range_at ends.0 ends.1 >>= λ range. Ok (Range range))
    (cut_at (codes "..") text) (pattern_at text >>= λ pattern. Ok (Pattern pattern))

-- what a text reads as: an entry, or the first fault in the order of the notation
unfoldable pub reading : Text → Result Entry EntryFault
reading text = option_map_or (λ parts. week_n_day_at parts >>= λ week_n_day. Ok (WeekNDay week_n_day))
    (without_prefix (codes "wnd:") text) (dates_at text)

-- the one text that spells an entry, by the forms of the notation
unfoldable pub spelling : Entry → Text
spelling (Pattern pattern) = pattern_text pattern
spelling (Range range) = range_text range
spelling (WeekNDay week_n_day) = week_n_day_text week_n_day

-- the text spells the entry
abbrev pub Spells : Text → Entry → Type 0
Spells text entry = (text ≡ spelling entry) × IsEntry entry

-- one text spells the entry, and no other does
pub record HasOneSpelling (entry : Entry) : Type 0 where
  pub text : Text
  pub spells : Spells text entry
  pub only : (other : Text) → Spells other entry → other ≡ text
