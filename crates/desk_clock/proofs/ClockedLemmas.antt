-- The change of a tick or an import makes the tables of one delivery more.
use Rattle.std.proofs.Common.{◌≡◌, ℕ, ◌-◌, ◌++◌, Bool, true, false, not, List, [], ◌∷◌, Option, Some, None, is_some, length, ℤ, arith}
use Rattle.std.proofs.Common.{refl, sym, ap, ◌∙◌, subst}
use Rattle.std.specs.List.{list_all}
use Rattle.std.proofs.lemmas.Bool.{false≢true}
use Rattle.building.specs.Building.{Building}
use Rattle.deliveries.specs.declared.delivery.Delivery.{Delivery}
use Rattle.deliveries.specs.declared.delivery.Delivery.TheVariants.{Import, Tick}
use Rattle.deliveries.specs.declared.reply.Reply.TheVariants as answer_of
use Rattle.deliveries.specs.Clocked.{Settles}
use Rattle.deliveries.specs.Delivered.{Holds}
use Rattle.deliveries.specs.Events.{has_calendar, is_later, is_moment, last_tick_of, machine}
use Rattle.deliveries.specs.Laws.{HasDistinctSchedules}
use Rattle.deliveries.specs.Machine.{added, local_of, changes_shown_at, writes_of}
use Rattle.deliveries.proofs.QuietLemmas.{Quiet-machine, with_rows-known}
use Rattle.deliveries.specs.Reply.{refused_record, reply}
use Rattle.deliveries.specs.Tables.{tables}
use Rattle.deliveries.proofs.ClockLemmas.{Tells-tables, machine-last_tick, reply-imported, reply-ticked, tables-imported, tables-last_tick, tables-shown, tables-ticked}
use Rattle.local_times.specs.declared.local_clock.LocalTime.{LocalTime}
use Rattle.local_times.specs.LocalTimes.{local_at}
use Rattle.sched.specs.declared.calendar.CalendarEntry.{CalendarEntry}
use Rattle.desk_settling.specs.Calendars.{Tells, with_items}
use Rattle.desk_settling.specs.Settled.{Shown}
use Rattle.store.specs.declared.change.Change.{Change}
use Rattle.store.specs.declared.change.ImportedEntry.{ImportedEntry}
use Rattle.store.specs.Change.{with_change}
use Rattle.store.specs.Standing.{Content, Standing}
use Rattle.points.specs.Texts.{Text}
use Rattle.deliveries.proofs.RefusedLemmas.{refused-at}

-- the tables of a list tell what its machine has imported
pub Tells-held : (b : Building) (E : List Delivery) (old : Standing) → Holds b E old
    → Tells old.content.tables.imported (machine b E).imported
Tells-held b E old held = subst (λ (c : Content). Tells c.tables.imported (machine b E).imported) (sym held) (Tells-tables b E)

shown-held : (b : Building) (E : List Delivery) (old : Standing) → Holds b E old → old.content.tables.shown ≡ (machine b E).shown
shown-held b E old held = ap (λ (c : Content). c.tables.shown) held ∙ tables-shown b E

-- the last tick that is read is the last one of the list
pub last-held : (b : Building) (E : List Delivery) (old : Standing) → Holds b E old → (last : Option ℤ)
    → last ≡ old.content.tables.last_tick
    → last ≡ last_tick_of b E
last-held b E old held last is = is ∙ (ap (λ (c : Content). c.tables.last_tick) held ∙ tables-last_tick b E)

pub last_of-held : (b : Building) (E : List Delivery) (old : Standing) → Holds b E old
    → old.content.tables.last_tick ≡ (machine b E).last_tick
last_of-held b E old held = ap (λ (c : Content). c.tables.last_tick) held ∙ (tables-last_tick b E ∙ sym (machine-last_tick b E))

-- at the last tick that is read nothing would change of what schedules show
pub rested-held : (b : Building) (E : List Delivery) (old : Standing) → HasDistinctSchedules b → Holds b E old → (last : Option ℤ)
    → last ≡ old.content.tables.last_tick
    → changes_shown_at b (machine b E).imported old.content.tables.shown (local_of b last) ≡ []
rested-held b E old distinct held last is =
    (λ i. changes_shown_at b (machine b E).imported (shown-held b E old held i) (local_of b ((is ∙ last_of-held b E old held) i)))
    ∙ (Quiet-machine b E distinct).1

-- rows of which none is refused have their calendars
opposite : (a b c : Bool) → a ≡ not b → a ≡ c → b ≡ not c
opposite true true c e f = absurd (false≢true (sym e))
opposite true false c e f = ap not f
opposite false true c e f = ap not f
opposite false false c e f = absurd (false≢true e)

pub all-known : (b : Building) (rows : List CalendarEntry) → refused_record b rows ≡ None → list_all (has_calendar b) rows ≡ true
all-known b rows none = opposite _ _ false (refused-at b rows) (ap is_some none)

pub not_all-known : (b : Building) (rows : List CalendarEntry) (record_at : ℕ) → refused_record b rows ≡ Some record_at
    → list_all (has_calendar b) rows ≡ false
not_all-known b rows record_at refused = opposite _ _ true (refused-at b rows) (ap is_some refused)

-- a change that settles over what a store holds
abbrev pub Settled-over : Building → Standing → List ImportedEntry → Option LocalTime → Option ℤ → Change → Type 0
Settled-over b old items local last change = (imported : Text → List Text) → Tells old.content.tables.imported imported
    → Settles b (with_items imported items) old.content.tables.shown local items last change

module _ (b : Building) (E : List Delivery) (old : Standing) (held : Holds b E old) where
  settles-held : (items : List ImportedEntry) (local : Option LocalTime) (last : Option ℤ) (change : Change)
      → Settled-over b old items local last change
      → Settles b (with_items (machine b E).imported items) (machine b E).shown local items last change
  settles-held items local last change settles =
      subst (λ (shown : Shown). Settles b (with_items (machine b E).imported items) shown local items last change)
      (shown-held b E old held) (settles (machine b E).imported (Tells-held b E old held))

  module _ (moment : ℤ) (local : LocalTime) (change : Change) (is_at : local_at b.zone moment ≡ Some local)
      (later : is_later (last_tick_of b E) moment ≡ true)
      (settles : Settles b (machine b E).imported old.content.tables.shown (Some local) [] (Some moment) change) where
    here : let m = machine b E in Settles b m.imported m.shown (local_of b (Some moment)) [] (Some moment) change
    here = let m = machine b E in
        subst (λ at. Settles b m.imported m.shown at [] (Some moment) change) (sym is_at)
        (subst (λ (shown : Shown). Settles b m.imported shown (Some local) [] (Some moment) change) (shown-held b E old held) settles)

    in_range : is_moment b moment ≡ true
    in_range = ap (λ at. is_some_at at) is_at
      where
        is_some_at : Option LocalTime → Bool
        is_some_at None = false
        is_some_at (Some at) = true

    pub ticked-tables : tables b (E ++ Tick moment ∷ []) ≡ with_change change (tables b E)
    ticked-tables = tables-ticked b E moment change in_range later here

    pub ticked-reply : (writes : ℕ) → writes ≡ length change.places.items → answer_of.Ticked writes ≡ reply b E (Tick moment)
    ticked-reply writes is = ap (λ n. answer_of.Ticked n) (is ∙ ap length here.places) ∙ sym (reply-ticked b E moment in_range later)

  module _ (rows : List CalendarEntry) (none : refused_record b rows ≡ None) (items : List ImportedEntry)
      (items_are : items ≡ added b (machine b E).imported rows) (change : Change)
      (settles : Settled-over b old items (local_of b (machine b E).last_tick) None change) where
    all : list_all (has_calendar b) rows ≡ true
    all = all-known b rows none

    settled-here : let m = machine b E in let more = added b m.imported rows in
        Settles b (with_items m.imported more) m.shown (local_of b m.last_tick) more None change
    settled-here = let m = machine b E in
        subst (λ more. Settles b (with_items m.imported more) m.shown (local_of b m.last_tick) more None change) items_are
        (settles-held items (local_of b m.last_tick) None change settles)

    pub imported-tables : tables b (E ++ Import rows ∷ []) ≡ with_change change (tables b E)
    imported-tables = tables-imported b E rows change all settled-here

    pub imported-reply : (writes : ℕ) → writes ≡ length change.places.items
        → answer_of.Imported (length items) (length rows - length items) writes ≡ reply b E (Import rows)
    imported-reply writes is =
        (λ i. answer_of.Imported (length (items_are i)) (length rows - length (items_are i)) ((is ∙ ap length settled-here.places) i))
        ∙ sym (reply-imported b E rows none)

pub none_in : {A : Type 0} (xs : List A) → length xs ≡ 0 → xs ≡ []
none_in [] is = refl
none_in (x ∷ xs) is = absurd (omega arith)

-- rows that are all known are answered so, and nothing is written
pub reply-known : (b : Building) (E : List Delivery) (rows : List CalendarEntry) → refused_record b rows ≡ None
    → added b (machine b E).imported rows ≡ [] → HasDistinctSchedules b
    → reply b E (Import rows) ≡ answer_of.Imported 0 (length rows) 0
reply-known b E rows none nothing distinct =
    let m = machine b E in
    let whole : length rows - 0 ≡ length rows = omega arith in
    reply-imported b E rows none
    ∙ (λ i. let now = with_rows-known b m rows nothing i in
    answer_of.Imported (length (nothing i)) (length rows - length (nothing i)) (writes_of b now now.last_tick))
    ∙ (λ i. answer_of.Imported 0 (whole i) (length ((Quiet-machine b E distinct).0 i)))
