-- The same delivery twice in a row.
use Rattle.std.proofs.Common.{◌≡◌, true, false, ◌&&◌, cond, List, [], ◌∷◌, ◌++◌, Option, Some, None, is_some, ℤ, pos, negsuc, int_lt}
use Rattle.std.proofs.Common.{refl, sym, ap, ◌∙◌, append_assoc, arith, inl, inr, Result, Ok, Err}
use Rattle.std.specs.List.{list_all}
use Rattle.std.specs.Str.{bytes_eq}
use Rattle.std.proofs.lemmas.Bool.Decides.{nat_tests}
use Rattle.std.proofs.lemmas.Bool.{cases_Bool}
use Rattle.std.proofs.lemmas.List.{append-nil}
use Rattle.std.proofs.lemmas.List.Sums.{fold-append}
use Rattle.building.specs.Building.{Building}
use Rattle.sched.specs.declared.calendar.CalendarEntry.{CalendarEntry}
use Rattle.desk_settling.specs.Calendars.{with_items}
use Rattle.store.specs.declared.fault.StoreFault.{StoreFault}
use Rattle.store.specs.declared.fault.StoreFault.TheVariants.{NoMemory, Failed, Shut, BadRow}
use Rattle.store.specs.Standing.{Content, Standing, sound}
use Rattle.points.specs.Texts.{Text}
use Rattle.window.specs.Taken as asks
use Rattle.deliveries.specs.declared.delivery.Delivery.{Delivery}
use Rattle.deliveries.specs.declared.delivery.Delivery.TheVariants as delivery_of
use Rattle.deliveries.specs.declared.reply.Reply.{Reply}
use Rattle.deliveries.specs.Accepted.{asked, asks_of, listed, panel_named, panel_of, taken_by}
use Rattle.deliveries.specs.Delivered.{Delivers, Holds}
use Rattle.deliveries.specs.Events.{acted_on, clock_event, has_calendar, is_later, is_moment, last_tick_of, later_of, machine, moment_of}
use Rattle.deliveries.specs.Laws.{HasDistinctSchedules}
use Rattle.deliveries.specs.Machine.{Import, Machine, added, run, settled}
use Rattle.deliveries.specs.Tables.{tables}
use Rattle.deliveries.proofs.ClockLemmas.{import-happens, tables-bad_moment, tables-old, tables-refused}
use Rattle.deliveries.proofs.EventLemmas.{machine-push, taken_by-push}
use Rattle.deliveries.proofs.QuietLemmas.{tables-known}
use Rattle.deliveries.proofs.StepLemmas.{IsSent, asks-none, commands_of-same, tables-same}
use Rattle.desk_record.proofs.AskedAgain.{take-again}
use Rattle.desk_record.proofs.ImportedAgain.{added-again}

-- ---- what is accepted

listed-again : (t : asks.Taken) (ask : Option asks.Ask) → asks.taken (asks.taken t (listed ask)) (listed ask) ≡ asks.taken t (listed ask)
listed-again t None = refl
listed-again t (Some ask) = take-again t ask

asks-again : (b : Building) (q : Text) (d : Delivery) (t : asks.Taken)
    → asks.taken (asks.taken t (asks_of b q d)) (asks_of b q d) ≡ asks.taken t (asks_of b q d)
asks-again b q d t = elim (bytes_eq (panel_of d) q && is_some (panel_named b q)) as
    (λ here. asks.taken (asks.taken t (cond here (listed (asked d)) [])) (cond here (listed (asked d)) [])
    ≡ asks.taken t (cond here (listed (asked d)) [])) [
      | true ↦ listed-again t (asked d)
      | false ↦ refl
    ]

-- nothing more is accepted of any panel, whatever the delivery
pub taken_by-again : (b : Building) (q : Text) (E : List Delivery) (d : Delivery)
    → taken_by b q ((E ++ d ∷ []) ++ d ∷ []) ≡ taken_by b q (E ++ d ∷ [])
taken_by-again b q E d =
    taken_by-push b q (E ++ d ∷ []) d
    ∙ (ap (λ t. asks.taken t (asks_of b q d)) (taken_by-push b q E d)
    ∙ (asks-again b q d (taken_by b q E) ∙ sym (taken_by-push b q E d)))

sent-again : (b : Building) (E : List Delivery) (d : Delivery) → IsSent d → tables b ((E ++ d ∷ []) ++ d ∷ []) ≡ tables b (E ++ d ∷ [])
sent-again b E d sent = tables-same b (E ++ d ∷ []) d sent (λ q. taken_by-again b q E d)

-- ---- ticks

not_before : (z : ℤ) → int_lt z z ≡ false
not_before (pos n) = grind (arith, nat_tests)
not_before (negsuc n) = grind (arith, nat_tests)

pub not_later : (last : Option ℤ) (moment : ℤ) → is_later (later_of last (Some moment)) moment ≡ false
not_later None moment = not_before moment
not_later (Some last) moment = elim (cases_Bool (int_lt last moment)) [
  | inl before ↦ rw before (not_before moment)
  | inr after ↦ rw after after
]

pub last_tick_of-push : (b : Building) (E : List Delivery) (d : Delivery)
    → last_tick_of b (E ++ d ∷ []) ≡ later_of (last_tick_of b E) (moment_of b d)
last_tick_of-push b E d = fold-append (λ last delivery. later_of last (moment_of b delivery)) None E (d ∷ [])

moment-in_range : (b : Building) (moment : ℤ) → is_moment b moment ≡ true → moment_of b (delivery_of.Tick moment) ≡ Some moment
moment-in_range b moment in_range = rw in_range refl

tick-not_later : (b : Building) (E : List Delivery) (moment : ℤ) → is_moment b moment ≡ true
    → is_later (last_tick_of b (E ++ delivery_of.Tick moment ∷ [])) moment ≡ false
tick-not_later b E moment in_range =
    ap (λ last. is_later last moment)
    (last_tick_of-push b E (delivery_of.Tick moment) ∙ ap (later_of (last_tick_of b E)) (moment-in_range b moment in_range))
    ∙ not_later (last_tick_of b E) moment

tick-again : (b : Building) (E : List Delivery) (moment : ℤ) → let d = delivery_of.Tick moment in
    tables b ((E ++ d ∷ []) ++ d ∷ []) ≡ tables b (E ++ d ∷ [])
tick-again b E moment = let d = delivery_of.Tick moment in elim (cases_Bool (is_moment b moment)) [
  | inl in_range ↦ tables-old b (E ++ d ∷ []) moment (tick-not_later b E moment in_range)
  | inr out ↦ tables-bad_moment b (E ++ d ∷ []) moment out
]

-- ---- imports

acted_on-import : (b : Building) (E : List Delivery) (rows : List CalendarEntry)
    → acted_on b E (delivery_of.Import rows) ≡ clock_event b E (delivery_of.Import rows)
acted_on-import b E rows =
    let d = delivery_of.Import rows in
    ap (λ commands. commands ++ clock_event b E d) (commands_of-same b E d
    (taken_by-push b (panel_of d) E d ∙ ap (asks.taken (taken_by b (panel_of d) E)) (asks-none b (panel_of d) d refl)))

imported-step : (b : Building) (m : Machine) (rows : List CalendarEntry)
    → (run b m (Import rows ∷ [])).imported ≡ with_items m.imported (added b m.imported rows)
unfolding settled
imported-step b m rows = refl

imported-after : (b : Building) (E : List Delivery) (rows : List CalendarEntry) → list_all (has_calendar b) rows ≡ true
    → let m = machine b E in (machine b (E ++ delivery_of.Import rows ∷ [])).imported ≡ with_items m.imported (added b m.imported rows)
imported-after b E rows all =
    let m = machine b E in
    ap (λ (now : Machine). now.imported) (machine-push b E (delivery_of.Import rows)
    ∙ ap (run b m) (acted_on-import b E rows ∙ import-happens b E rows all))
    ∙ imported-step b m rows

pub adds-none : (b : Building) (E : List Delivery) (rows : List CalendarEntry) → list_all (has_calendar b) rows ≡ true
    → added b (machine b (E ++ delivery_of.Import rows ∷ [])).imported rows ≡ []
adds-none b E rows all =
    let m = machine b E in
    ap (λ held. added b held rows) (imported-after b E rows all ∙ ap (with_items m.imported) (sym (append-nil (added b m.imported rows))))
    ∙ added-again b m.imported rows []

import-again : (b : Building) (E : List Delivery) (rows : List CalendarEntry) → HasDistinctSchedules b → let d = delivery_of.Import rows in
    tables b ((E ++ d ∷ []) ++ d ∷ []) ≡ tables b (E ++ d ∷ [])
import-again b E rows distinct = let d = delivery_of.Import rows in elim (cases_Bool (list_all (has_calendar b) rows)) [
  | inl all ↦ tables-known b (E ++ d ∷ []) rows distinct (adds-none b E rows all)
  | inr not_all ↦ tables-refused b (E ++ d ∷ []) rows not_all
]

-- ---- all of them

each-again : (b : Building) (E : List Delivery) (d : Delivery) → HasDistinctSchedules b
    → tables b ((E ++ d ∷ []) ++ d ∷ []) ≡ tables b (E ++ d ∷ [])
each-again b E (delivery_of.Command panel number content) distinct = sent-again b E (delivery_of.Command panel number content) tt
each-again b E (delivery_of.Skip panel upto) distinct = sent-again b E (delivery_of.Skip panel upto) tt
each-again b E (delivery_of.Tick moment) distinct = tick-again b E moment
each-again b E (delivery_of.Import rows) distinct = import-again b E rows distinct

pub tables-twice : (b : Building) (E : List Delivery) (d : Delivery) → HasDistinctSchedules b
    → tables b (E ++ d ∷ d ∷ []) ≡ tables b (E ++ d ∷ [])
tables-twice b E d distinct = ap (tables b) (sym (append_assoc E (d ∷ []) (d ∷ []))) ∙ each-again b E d distinct

-- ---- a store

-- a store that holds a record still holds it: so it is after each result, and after a stop
abbrev pub KeepsRecord : Building → List Delivery → Result Reply StoreFault → Standing → Type 0
KeepsRecord building written (Ok answer) now = Holds building written now
KeepsRecord building written (Err NoMemory) now = Holds building written now
KeepsRecord building written (Err Failed) now =
    (content : Content) → now.may_leave content → content ≡ sound (tables building written)
KeepsRecord building written (Err Shut) now = Holds building written now
KeepsRecord building written (Err BadRow) now = ⊥

pub keeps-record : (b : Building) (E : List Delivery) (d : Delivery) (result : Result Reply StoreFault) (now : Standing)
    → HasDistinctSchedules b → Delivers b (E ++ d ∷ []) d result now → KeepsRecord b (E ++ d ∷ []) result now
keeps-record b E d (Ok answer) now distinct delivers = delivers.1 ∙ ap sound (each-again b E d distinct)
keeps-record b E d (Err NoMemory) now distinct delivers = delivers
keeps-record b E d (Err Failed) now distinct delivers = λ content may. elim (delivers content may) [
  | inl before ↦ before
  | inr after ↦ after ∙ ap sound (each-again b E d distinct)
]
keeps-record b E d (Err Shut) now distinct delivers = delivers
keeps-record b E d (Err BadRow) now distinct delivers = delivers
