-- Cut imports lead the machine to the same.
use Rattle.std.proofs.Common.{◌≡◌, true, List, [], ◌∷◌, ◌++◌, refl, sym, ap, ◌∙◌, append_assoc}
use Rattle.std.specs.List.{list_all}
use Rattle.building.specs.Building.{Building}
use Rattle.sched.specs.declared.calendar.CalendarEntry.{CalendarEntry}
use Rattle.desk_settling.specs.Calendars.{with_items}
use Rattle.store.specs.declared.change.ImportedEntry.{ImportedEntry}
use Rattle.points.specs.Texts.{Text}
use Rattle.window.specs.declared.numbered_content.NumberedContent.{NumberedContent}
use Rattle.deliveries.specs.Events.{events_of, has_calendar}
use Rattle.deliveries.specs.Laws.{HasDistinctSchedules}
use Rattle.deliveries.specs.Machine.{Command, Event, Import, Machine, Tick, added, added_by, local_of, run, settled, step}
use Rattle.deliveries.specs.Machine.{with_rows}
use Rattle.deliveries.proofs.AgainLemmas.{both-parts}
use Rattle.deliveries.proofs.ClockLemmas.{with_items-none}
use Rattle.deliveries.proofs.EventLemmas.{run-append}
use Rattle.deliveries.proofs.QuietLemmas.{Quiet, Quiet-step, settled-quiet, with_rows-known}
use Rattle.deliveries.specs.Cut.{added_rows, cut, cut_event, import_of, row_that_adds}

-- the rows that add are those that add again
pub added-added_rows : (b : Building) (imported : Text → List Text) (rows : List CalendarEntry)
    → added b imported (added_rows b imported rows) ≡ added b imported rows
added-added_rows b imported [] = refl
added-added_rows b imported (row ∷ rows) =
    by (added_by b imported row) refl (λ items. added-added_rows b (with_items imported items) rows)
  where
    by : (items : List ImportedEntry) → added_by b imported row ≡ items
        → ((items : List ImportedEntry) → added b (with_items imported items) (added_rows b (with_items imported items) rows)
        ≡ added b (with_items imported items) rows)
        → added b imported (added_rows b imported (row ∷ rows)) ≡ added b imported (row ∷ rows)
    by [] e more = rw e (
        ap (λ held. added b held (added_rows b (with_items imported []) rows)) (sym (with_items-none imported)) ∙ more [])
    by (item ∷ items) e more = rw e (rw e (ap (λ rest. (item ∷ items) ++ rest) (more (item ∷ items))))

-- each of them has its calendar
pub have_calendars-added_rows : (b : Building) (imported : Text → List Text) (rows : List CalendarEntry)
    → list_all (has_calendar b) rows ≡ true → list_all (has_calendar b) (added_rows b imported rows) ≡ true
have_calendars-added_rows b imported [] all = refl
have_calendars-added_rows b imported (row ∷ rows) all =
    let parts = both-parts (has_calendar b row) (list_all (has_calendar b) rows) all in
    by (added_by b imported row) parts.0 (have_calendars-added_rows b (with_items imported (added_by b imported row)) rows parts.1)
  where
    by : (items : List ImportedEntry) → has_calendar b row ≡ true
        → list_all (has_calendar b) (added_rows b (with_items imported items) rows) ≡ true
        → list_all (has_calendar b) (row_that_adds row items ++ added_rows b (with_items imported items) rows) ≡ true
    by [] here more = more
    by (item ∷ items) here more = rw (here, more) refl

with_rows-same : (b : Building) (m : Machine) (rows : List CalendarEntry) (items : List ImportedEntry) → added b m.imported rows ≡ items
    → with_rows b m rows ≡ record {
      places = m.places;
      answers = m.answers;
      shown = m.shown;
      imported = with_items m.imported items;
      last_tick = m.last_tick;
    }
with_rows-same b m rows items same = λ i. record {
  places = m.places;
  answers = m.answers;
  shown = m.shown;
  imported = with_items m.imported (same i);
  last_tick = m.last_tick;
}

settles : Building → Machine → Machine
settles b now = settled b now (local_of b now.last_tick)

run-import_of : (b : Building) (m : Machine) (rows : List CalendarEntry) → Quiet b m
    → run b m (import_of (added_rows b m.imported rows)) ≡ step b m (Import rows)
run-import_of b m rows quiet = by (added_rows b m.imported rows) (added-added_rows b m.imported rows)
  where
    by : (again : List CalendarEntry) → added b m.imported again ≡ added b m.imported rows
        → run b m (import_of again) ≡ step b m (Import rows)
    by [] same = sym (ap (λ now. settled b now (local_of b now.last_tick)) (with_rows-known b m rows (sym same)) ∙ settled-quiet b m quiet)
    by (row ∷ more) same =
        ap (λ now. settled b now (local_of b now.last_tick)) (with_rows-same b m (row ∷ more) (added b m.imported rows) same)

run-cut_event : (b : Building) (m : Machine) (event : Event) → Quiet b m → run b m (cut_event b m event) ≡ step b m event
run-cut_event b m (Command panel number content) quiet = refl
run-cut_event b m (Tick moment) quiet = refl
run-cut_event b m (Import rows) quiet = run-import_of b m rows quiet

pub run-cut : (b : Building) (m : Machine) (events : List Event) → HasDistinctSchedules b → Quiet b m
    → run b m (cut b m events) ≡ run b m events
run-cut b m [] distinct quiet = refl
run-cut b m (event ∷ events) distinct quiet =
    run-append b m (cut_event b m event) (cut b (step b m event) events)
    ∙ (ap (λ now. run b now (cut b (step b m event) events)) (run-cut_event b m event quiet)
    ∙ run-cut b (step b m event) events distinct (Quiet-step b m event distinct quiet))

pub cut-append : (b : Building) (m : Machine) (xs ys : List Event) → cut b m (xs ++ ys) ≡ cut b m xs ++ cut b (run b m xs) ys
cut-append b m [] ys = refl
cut-append b m (x ∷ xs) ys =
    ap (λ more. cut_event b m x ++ more) (cut-append b (step b m x) xs ys)
    ∙ sym (append_assoc (cut_event b m x) (cut b (step b m x) xs) (cut b (run b m (x ∷ xs)) ys))

-- commands are not cut
pub cut-commands : (b : Building) (m : Machine) (p : Text) (entries : List NumberedContent) → cut b m (events_of p entries)
    ≡ events_of p entries
cut-commands b m p [] = refl
cut-commands b m p (entry ∷ entries) =
    ap (λ more. Command p entry.number entry.content ∷ more) (cut-commands b (step b m (Command p entry.number entry.content)) p entries)
