-- The rows that the records of a holiday list name, or the fault of the least faulty one.
use Rattle.std.specs.Prelude.{ℕ, nat_le, Bool, ◌&&◌, List, [], ◌∷◌, codes, Option, Result, Ok, Err, ⊤}
use Rattle.std.specs.List.{list_all}
use Rattle.std.specs.Result.{result_ok}
use Rattle.std.specs.Str.{bytes_eq, is_utf8}
use Rattle.building_holidays.specs.CsvRecords.{Fields}
use Rattle.dates.specs.Entry.{reading}
use Rattle.points.specs.FaultSteps.{or_fault, where_holds, ◌>>=◌}
use Rattle.building_holidays.specs.ImportFaults.{fault}
use Rattle.building_holidays.specs.RecordTexts.{two_texts}
use Rattle.building_holidays.specs.Meanings.{all_ok, meanings}
use Rattle.building_holidays.specs.declared.import_fault.ImportCause.TheVariants.{NotAnEntry, NotCsv, OtherHeader, TooManyRows, UnknownCalendar}
use Rattle.building_holidays.specs.declared.import_fault.ImportFault.{ImportFault}
use Rattle.sched.specs.declared.calendar.CalId.{CalId}
use Rattle.sched.specs.declared.calendar.CalendarEntry.{CalendarEntry}

-- ---- what one record tells, by its number from 1

abbrev pub is_header : List ℕ × List ℕ → Bool
is_header names = bytes_eq names.0 (codes "calendar") && bytes_eq names.1 (codes "entry")

-- the header: I1 where it is not UTF-8, I2 where it is another
abbrev pub header_in : Fields → Result ⊤ ImportFault
header_in fields = do
  text ← where_holds (list_all is_utf8 fields) (fault NotCsv 1) fields
  names ← or_fault (fault OtherHeader 1) (two_texts text)
  where_holds (is_header names) (fault OtherHeader 1) tt

-- a row: I1 where it is not two fields of UTF-8, I5 beyond record 2,001, I3 where no calendar stands at the
-- name, I4 where the text spells no entry
unfoldable pub row_in : (List ℕ → Option CalId) → ℕ → Fields → Result CalendarEntry ImportFault
row_in calendar_named number fields = do
  texts ← or_fault (fault NotCsv number) (two_texts fields)
  counted ← where_holds (nat_le number 2_001) (fault TooManyRows number) texts
  calendar ← or_fault (fault UnknownCalendar number) (calendar_named counted.0)
  entry ← or_fault (fault NotAnEntry number) (result_ok (reading counted.1))
  Ok (record { calendar = calendar; entry = entry })

-- ---- what the records tell together

-- the rows of a list, where a calendar stands at each name; without a header it is at fault as with another one
unfoldable pub holidays_in : (List ℕ → Option CalId) → List Fields → Result (List CalendarEntry) ImportFault
holidays_in calendar_named [] = Err (fault OtherHeader 1)
holidays_in calendar_named (header ∷ rows) = header_in header >>= (λ named. all_ok (meanings (row_in calendar_named) 2 rows))
