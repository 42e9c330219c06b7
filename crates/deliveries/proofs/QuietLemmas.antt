-- After each delivery the schedules have settled at the last tick.
use Rattle.std.proofs.Common.{◌≡◌, List, [], ◌∷◌, ◌++◌, Option, Some, None, refl, sym, ap, ◌∙◌, inl, inr}
use Rattle.std.specs.List.{list_all}
use Rattle.std.proofs.lemmas.Bool.{cases_Bool}
use Rattle.building.specs.Building.{Building}
use Rattle.local_times.specs.declared.local_clock.LocalTime.{LocalTime}
use Rattle.sched.specs.declared.calendar.CalendarEntry.{CalendarEntry}
use Rattle.desk_settling.specs.Calendars.{with_items}
use Rattle.desk_settling.specs.Settled.{Shown}
use Rattle.store.specs.Change.{with_each, with_place, with_shown}
use Rattle.points.specs.Texts.{Text}
use Rattle.deliveries.specs.declared.delivery.Delivery.{Delivery}
use Rattle.deliveries.specs.declared.delivery.Delivery.TheVariants as delivery_of
use Rattle.deliveries.specs.Accepted.{taken_by}
use Rattle.deliveries.specs.Events.{events_after, has_calendar, machine}
use Rattle.deliveries.specs.Laws.{HasDistinctSchedules, WritesNothingMore}
use Rattle.deliveries.specs.Machine.{Command, Event, Import, Machine, Tick, added, local_of, now_of, opening_machine, run, settled, step, changes_shown_at, with_rows, writes_at}
use Rattle.deliveries.specs.Tables.{tables}
use Rattle.deliveries.proofs.AgainLemmas.{changes_shown-again, written-again}
use Rattle.deliveries.proofs.ClockLemmas.{import-happens, tables-clock, tables-refused, with_items-none}
use Rattle.deliveries.proofs.StepLemmas.{tables-at, tables-is}

pub settled-again : (b : Building) (imported : Text → List Text) (shown : Shown) (local : Option LocalTime) → HasDistinctSchedules b
    → WritesNothingMore b imported shown local
settled-again b imported shown None distinct = record { writes = refl; tells = refl }
settled-again b imported shown (Some local) distinct = record {
  writes = written-again (now_of b imported local) shown b.schedules distinct;
  tells = changes_shown-again (now_of b imported local) shown b.schedules distinct;
}

-- settled at the last tick
abbrev pub Quiet : Building → Machine → Type 0
Quiet b m = (writes_at b m.imported m.shown (local_of b m.last_tick) ≡ []) × (changes_shown_at b m.imported m.shown (local_of b m.last_tick) ≡ [])

pub Quiet-step : (b : Building) (m : Machine) (event : Event) → HasDistinctSchedules b → Quiet b m → Quiet b (step b m event)
unfolding settled
Quiet-step b m (Command panel number content) distinct quiet = quiet
Quiet-step b m (Tick moment) distinct quiet =
    let again = settled-again b m.imported m.shown (local_of b (Some moment)) distinct in (again.writes, again.tells)
Quiet-step b m (Import rows) distinct quiet =
    let again = settled-again b (with_items m.imported (added b m.imported rows)) m.shown (local_of b m.last_tick) distinct in
    (again.writes, again.tells)

pub Quiet-run : (b : Building) (m : Machine) (events : List Event) → HasDistinctSchedules b → Quiet b m → Quiet b (run b m events)
Quiet-run b m [] distinct quiet = quiet
Quiet-run b m (event ∷ events) distinct quiet = Quiet-run b (step b m event) events distinct (Quiet-step b m event distinct quiet)

pub Quiet-machine : (b : Building) (E : List Delivery) → HasDistinctSchedules b → Quiet b (machine b E)
unfolding machine
Quiet-machine b E distinct = Quiet-run b opening_machine (events_after b [] E) distinct (refl, refl)

-- rows that add nothing
pub with_rows-known : (b : Building) (m : Machine) (rows : List CalendarEntry) → added b m.imported rows ≡ [] → with_rows b m rows ≡ m
with_rows-known b m rows none = λ i. record {
  places = m.places;
  answers = m.answers;
  shown = m.shown;
  imported = (ap (with_items m.imported) none ∙ with_items-none m.imported) i;
  last_tick = m.last_tick;
}

pub settled-quiet : (b : Building) (m : Machine) → Quiet b m → settled b m (local_of b m.last_tick) ≡ m
unfolding settled
settled-quiet b m quiet = λ i. record {
  places = with_each with_place (quiet.0 i) m.places;
  answers = m.answers;
  shown = with_each with_shown (quiet.1 i) m.shown;
  imported = m.imported;
  last_tick = m.last_tick;
}

pub tables-known : (b : Building) (E : List Delivery) (rows : List CalendarEntry) → HasDistinctSchedules b
    → added b (machine b E).imported rows ≡ [] → tables b (E ++ delivery_of.Import rows ∷ []) ≡ tables b E
tables-known b E rows distinct none = elim (cases_Bool (list_all (has_calendar b) rows)) [
  | inl all ↦
      let m = machine b E in
      tables-clock b E (delivery_of.Import rows) refl
      ∙ (ap (λ happened. tables-at (run b m happened) (λ q. taken_by b q E)) (import-happens b E rows all)
      ∙ (ap (λ now. tables-at now (λ q. taken_by b q E))
      (ap (λ now. settled b now (local_of b now.last_tick)) (with_rows-known b m rows none)
      ∙ settled-quiet b m (Quiet-machine b E distinct))
      ∙ sym (tables-is b E)))
  | inr not_all ↦ tables-refused b E rows not_all
]
