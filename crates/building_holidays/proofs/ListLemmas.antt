-- The first fault of a list, or all its values.
use Rattle.std.proofs.Common.{◌≡◌, List, [], ◌∷◌, ◌++◌, map, Result, Ok, Err, refl, ap, ◌∙◌}
use Rattle.points.specs.FaultSteps.{result_map}
use Rattle.building_holidays.specs.ListLaws.{FaultIsTheLeast, IsLeastFault, RowResult, RowsAreOfAllRecords}
use Rattle.building_holidays.specs.Meanings.{all_ok}
use Rattle.building_holidays.specs.declared.import_fault.ImportFault.{ImportFault}
use Rattle.sched.specs.declared.calendar.CalendarEntry.{CalendarEntry}

-- ---- rows

ok_rows : (records : List RowResult) (rows : List CalendarEntry) → all_ok records ≡ Ok rows → records ≡ map Ok rows
ok_rows [] rows e = let none : [] ≡ rows = (cc) in ap (map Ok) none
ok_rows (Ok row ∷ later) rows e = by (all_ok later) e (ok_rows later)
  where
    by : (r : Result (List CalendarEntry) ImportFault) → result_map (λ rest. row ∷ rest) r ≡ Ok rows
        → ((rest : List CalendarEntry) → r ≡ Ok rest → later ≡ map Ok rest) → Ok row ∷ later ≡ map Ok rows
    by (Ok rest) e more =
        let same : row ∷ rest ≡ rows = (cc) in
        ap (λ meanings. Ok row ∷ meanings) (more rest refl) ∙ ap (map Ok) same
    by (Err fault) e more = absurd (cc e)
ok_rows (Err fault ∷ later) rows e = absurd (cc e)

rows_ok : (rows : List CalendarEntry) → all_ok (map Ok rows) ≡ Ok rows
rows_ok [] = refl
rows_ok (row ∷ rest) = ap (result_map (λ rows. row ∷ rows)) (rows_ok rest)

pub rows_are_of_all_records : RowsAreOfAllRecords
rows_are_of_all_records records rows = (ok_rows records rows, λ e. ap all_ok e ∙ rows_ok rows)

-- ---- a fault

least_fault : (records : List RowResult) (fault : ImportFault) → all_ok records ≡ Err fault → IsLeastFault records fault
least_fault [] fault e = absurd (cc e)
least_fault (Ok row ∷ later) fault e = by (all_ok later) e (least_fault later fault)
  where
    by : (r : Result (List CalendarEntry) ImportFault) → result_map (λ rest. row ∷ rest) r ≡ Err fault
        → (r ≡ Err fault → IsLeastFault later fault) → IsLeastFault (Ok row ∷ later) fault
    by (Ok rest) e more = absurd (cc e)
    by (Err first) e more =
        let same : first ≡ fault = (cc) in
        let least = more (ap (λ f. Err f) same) in
        (row ∷ least.0, least.1, ap (λ meanings. Ok row ∷ meanings) least.2)
least_fault (Err first ∷ later) fault e =
    let same : first ≡ fault = (cc) in
    ([], later, ap (λ f. Err f ∷ later) same)

fault_after : (rows : List CalendarEntry) (fault : ImportFault) (later : List RowResult) → all_ok (map Ok rows ++ Err fault ∷ later) ≡ Err fault
fault_after [] fault later = refl
fault_after (row ∷ rest) fault later = ap (result_map (λ rows. row ∷ rows)) (fault_after rest fault later)

pub fault_is_the_least : FaultIsTheLeast
fault_is_the_least records fault =
    (least_fault records fault, λ least. ap all_ok least.2 ∙ fault_after least.0 fault least.1)
