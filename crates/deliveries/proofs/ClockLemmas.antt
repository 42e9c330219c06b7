-- What ticks and imports do to the machine, the tables and the replies.
use Rattle.std.proofs.Common.{◌≡◌, ℕ, Bool, true, false, ◌&&◌, ◌||◌, cond, List, [], ◌∷◌, ◌++◌, Option, Some, None}
use Rattle.std.proofs.Common.{refl, sym, ap, ap₂, ◌∙◌, append_assoc, bytes_eq, ℤ, inl, inr}
use Rattle.std.proofs.Math.Path.{fun_ext}
use Rattle.std.specs.Cmp.Lexicographic.{nat_list_eq_equiv}
use Rattle.std.specs.List.{list_all, list_any}
use Rattle.std.proofs.lemmas.Bool.{cases_Bool}
use Rattle.std.proofs.lemmas.List.{append-nil}
use Rattle.std.proofs.lemmas.List.Folds.{list_any-append}
use Rattle.std.proofs.lemmas.List.Sums.{fold-append}
use Rattle.building.specs.Building.{Building}
use Rattle.dates.specs.Entry.{spelling}
use Rattle.local_times.specs.declared.local_clock.LocalTime.{LocalTime}
use Rattle.sched.specs.declared.calendar.CalendarEntry.{CalendarEntry}
use Rattle.desk_settling.specs.Calendars.{Tells, texts_for, with_items}
use Rattle.desk_settling.specs.Settled.{Shown}
use Rattle.store.specs.declared.change.Change.{Change}
use Rattle.store.specs.declared.change.ImportedEntry.{ImportedEntry}
use Rattle.store.specs.Change.{with_change, with_each, with_imported, with_last_tick, with_next, with_place, with_row, with_shown, without_rows}
use Rattle.store.specs.Tables.{Tables}
use Rattle.points.specs.Texts.{Text}
use Rattle.window.specs.declared.numbered_content.NumberedContent.{NumberedContent}
use Rattle.window.specs.Applied.{applied}
use Rattle.window.specs.Taken as asks
use Rattle.deliveries.specs.declared.delivery.Delivery.{Delivery}
use Rattle.deliveries.specs.declared.delivery.Delivery.TheVariants as delivery_of
use Rattle.deliveries.specs.declared.reply.Reply.TheVariants as answer_of
use Rattle.deliveries.specs.Accepted.{asked, panel_of, taken_by}
use Rattle.deliveries.specs.Clocked.{Settles}
use Rattle.deliveries.specs.Events.{acted_on, clock_event, events_after, has_calendar, is_later, is_moment, last_tick_of, later_of, machine, moment_of}
use Rattle.deliveries.specs.Machine.{Machine, Tick, Import, added, local_of, opening_machine, run, settled, changes_shown_at, with_rows, writes_at, writes_of}
use Rattle.deliveries.specs.Reply.{imported_reply, refused_record, reply}
use Rattle.deliveries.specs.Tables.{tables}
use Rattle.deliveries.proofs.EventLemmas.{machine-push, run-append, taken_by-push}
use Rattle.deliveries.proofs.MachineLemmas.{last_tick-run}
use Rattle.deliveries.proofs.StepLemmas.{acted_on-sent, asks-none, commands_of-same, tables-at, tables-is}

-- ---- nothing is asked of a panel

taken-unasked : (b : Building) (q : Text) (E : List Delivery) (d : Delivery) → asked d ≡ None → taken_by b q (E ++ d ∷ []) ≡ taken_by b q E
taken-unasked b q E d none = taken_by-push b q E d ∙ ap (asks.taken (taken_by b q E)) (asks-none b q d none)

pub acted_on-clock : (b : Building) (E : List Delivery) (d : Delivery) → asked d ≡ None → acted_on b E d ≡ clock_event b E d
acted_on-clock b E d none = ap (λ commands. commands ++ clock_event b E d) (commands_of-same b E d (taken-unasked b (panel_of d) E d none))

machine-clock : (b : Building) (E : List Delivery) (d : Delivery) → asked d ≡ None
    → machine b (E ++ d ∷ []) ≡ run b (machine b E) (clock_event b E d)
machine-clock b E d none = machine-push b E d ∙ ap (run b (machine b E)) (acted_on-clock b E d none)

pub tables-clock : (b : Building) (E : List Delivery) (d : Delivery) → asked d ≡ None
    → tables b (E ++ d ∷ []) ≡ tables-at (run b (machine b E) (clock_event b E d)) (λ q. taken_by b q E)
tables-clock b E d none =
    tables-is b (E ++ d ∷ []) ∙ (λ i. tables-at (machine-clock b E d none i) (λ q. taken-unasked b q E d none i))

tables-no_event : (b : Building) (E : List Delivery) (d : Delivery) → asked d ≡ None → clock_event b E d ≡ []
    → tables b (E ++ d ∷ []) ≡ tables b E
tables-no_event b E d none quiet =
    tables-clock b E d none ∙ ap (λ events. tables-at (run b (machine b E) events) (λ q. taken_by b q E)) quiet ∙ sym (tables-is b E)

-- ---- the last tick

settled-last_tick : (b : Building) (m : Machine) (local : Option LocalTime) → (settled b m local).last_tick ≡ m.last_tick
unfolding settled
settled-last_tick b m local = refl

later-tick : (last : Option ℤ) (moment : ℤ) (is_in later : Bool) → is_later last moment ≡ later
    → later_of last (cond is_in (Some moment) None) ≡ cond (is_in && later) (Some moment) last
later-tick None moment true true e = refl
later-tick None moment true false e = cc
later-tick (Some last) moment true true e = rw e refl
later-tick (Some last) moment true false e = rw e refl
later-tick last moment false later e = refl

last_tick-event : (b : Building) (m : Machine) (moment : ℤ) (happens : Bool)
    → (run b m (cond happens (Tick moment ∷ []) [])).last_tick ≡ cond happens (Some moment) m.last_tick
last_tick-event b m moment true = refl
last_tick-event b m moment false = refl

last_tick-import : (b : Building) (m : Machine) (rows : List CalendarEntry) (happens : Bool)
    → (run b m (cond happens (Import rows ∷ []) [])).last_tick ≡ m.last_tick
last_tick-import b m rows true = settled-last_tick b (with_rows b m rows) (local_of b m.last_tick)
last_tick-import b m rows false = refl

abbrev commanded-by : Building → List Delivery → Text → Delivery → List NumberedContent
commanded-by b E panel d = applied (taken_by b panel E) (taken_by b panel (E ++ d ∷ []))

last_tick-acted : (b : Building) (E : List Delivery) (d : Delivery) (m : Machine) → m.last_tick ≡ last_tick_of b E
    → (run b m (acted_on b E d)).last_tick ≡ later_of (last_tick_of b E) (moment_of b d)
last_tick-acted b E (delivery_of.Command panel number content) m last =
    ap (λ events. (run b m events).last_tick) (acted_on-sent b E (delivery_of.Command panel number content) tt)
    ∙ (last_tick-run b m panel (commanded-by b E panel (delivery_of.Command panel number content)) ∙ last)
last_tick-acted b E (delivery_of.Skip panel upto) m last =
    ap (λ events. (run b m events).last_tick) (acted_on-sent b E (delivery_of.Skip panel upto) tt)
    ∙ (last_tick-run b m panel (commanded-by b E panel (delivery_of.Skip panel upto)) ∙ last)
last_tick-acted b E (delivery_of.Tick moment) m last =
    ap (λ events. (run b m events).last_tick) (acted_on-clock b E (delivery_of.Tick moment) refl)
    ∙ (last_tick-event b m moment (is_moment b moment && is_later (last_tick_of b E) moment)
    ∙ (ap (λ l. cond (is_moment b moment && is_later (last_tick_of b E) moment) (Some moment) l) last
    ∙ sym (later-tick (last_tick_of b E) moment (is_moment b moment) (is_later (last_tick_of b E) moment) refl)))
last_tick-acted b E (delivery_of.Import rows) m last =
    ap (λ events. (run b m events).last_tick) (acted_on-clock b E (delivery_of.Import rows) refl)
    ∙ (last_tick-import b m rows (list_all (has_calendar b) rows) ∙ last)

last_tick_of-push : (b : Building) (E : List Delivery) (d : Delivery)
    → last_tick_of b (E ++ d ∷ []) ≡ later_of (last_tick_of b E) (moment_of b d)
last_tick_of-push b E d = fold-append (λ last delivery. later_of last (moment_of b delivery)) None E (d ∷ [])

last_tick-after : (b : Building) (E ds : List Delivery) (m : Machine) → m.last_tick ≡ last_tick_of b E
    → (run b m (events_after b E ds)).last_tick ≡ last_tick_of b (E ++ ds)
last_tick-after b E [] m last = last ∙ ap (last_tick_of b) (sym (append-nil E))
last_tick-after b E (d ∷ ds) m last =
    let next = run b m (acted_on b E d) in
    ap (λ (after : Machine). after.last_tick) (run-append b m (acted_on b E d) (events_after b (E ++ d ∷ []) ds))
    ∙ (last_tick-after b (E ++ d ∷ []) ds next (last_tick-acted b E d m last ∙ sym (last_tick_of-push b E d))
    ∙ ap (last_tick_of b) (append_assoc E (d ∷ []) ds))

pub machine-last_tick : (b : Building) (E : List Delivery) → (machine b E).last_tick ≡ last_tick_of b E
unfolding machine
machine-last_tick b E = last_tick-after b [] E opening_machine refl

pub tables-last_tick : (b : Building) (E : List Delivery) → (tables b E).last_tick ≡ last_tick_of b E
unfolding tables
tables-last_tick b E = machine-last_tick b E

-- ---- what is imported

both-texts : (a c : Bool) → (a || c) ≡ (c || a)
both-texts true true = refl
both-texts true false = refl
both-texts false true = refl
both-texts false false = refl

Tells-item : (table : Text → Text → Bool) (imported : Text → List Text) (item : ImportedEntry) → Tells table imported
    → Tells (with_imported item table) (with_items imported (item ∷ []))
Tells-item table imported item tells calendar text = elim (cases_Bool (bytes_eq item.calendar calendar)) [
  | inl here ↦ rw here
      (ap₂ (λ x y. x || y) (nat_list_eq_equiv.symm (spelling item.entry) text) (tells calendar text)
      ∙ (both-texts (bytes_eq text (spelling item.entry)) (list_any (bytes_eq text) (imported calendar))
      ∙ (ap (λ y. list_any (bytes_eq text) (imported calendar) || y) (both-texts false (bytes_eq text (spelling item.entry)))
      ∙ sym (list_any-append (bytes_eq text) (imported calendar) (spelling item.entry ∷ [])))))
  | inr apart ↦ rw apart (tells calendar text ∙ ap (list_any (bytes_eq text)) (sym (append-nil (imported calendar))))
]

texts_for-more : (calendar : Text) (item : ImportedEntry) (items : List ImportedEntry)
    → texts_for calendar (item ∷ []) ++ texts_for calendar items ≡ texts_for calendar (item ∷ items)
texts_for-more calendar item items =
    elim (cases_Bool (bytes_eq item.calendar calendar)) [ inl here ↦ rw here refl | inr apart ↦ rw apart refl ]

pub Tells-items : (table : Text → Text → Bool) (imported : Text → List Text) (items : List ImportedEntry) → Tells table imported
    → Tells (with_each with_imported items table) (with_items imported items)
Tells-items table imported [] tells calendar text =
    tells calendar text ∙ ap (list_any (bytes_eq text)) (sym (append-nil (imported calendar)))
Tells-items table imported (item ∷ items) tells calendar text =
    Tells-items (with_imported item table) (with_items imported (item ∷ [])) items (Tells-item table imported item tells) calendar text
    ∙ ap (list_any (bytes_eq text)) (append_assoc (imported calendar) (texts_for calendar (item ∷ [])) (texts_for calendar items)
    ∙ ap (λ texts. imported calendar ++ texts) (texts_for-more calendar item items))

pub with_items-none : (imported : Text → List Text) → with_items imported [] ≡ imported
with_items-none imported = fun_ext (λ calendar. append-nil (imported calendar))

pub Tells-tables : (b : Building) (E : List Delivery) → Tells (tables b E).imported (machine b E).imported
unfolding tables
Tells-tables b E calendar text = refl

pub tables-shown : (b : Building) (E : List Delivery) → (tables b E).shown ≡ (machine b E).shown
unfolding tables
tables-shown b E = refl

-- ---- the tables after a change by schedules

with_change-settles : (b : Building) (imported : Text → List Text) (shows : Shown) (local : Option LocalTime) (items : List ImportedEntry)
    (last : Option ℤ) (change : Change) (t : Tables) → Settles b imported shows local items last change → with_change change t ≡ record {
      places = with_each with_place (writes_at b imported shows local) t.places;
      next = t.next;
      row = t.row;
      shown = with_each with_shown (changes_shown_at b imported shows local) t.shown;
      imported = with_each with_imported items t.imported;
      last_tick = with_last_tick last t.last_tick;
    }
unfolding with_change
with_change-settles b imported shows local items last change t settles = λ i. record {
  places = with_each with_place (settles.places i) t.places;
  next = with_each with_next (settles.nexts i) t.next;
  row = with_each without_rows (settles.dropped i) (with_each with_row (settles.rows i) t.row);
  shown = with_each with_shown (settles.shown i) t.shown;
  imported = with_each with_imported (settles.imported i) t.imported;
  last_tick = with_last_tick (settles.last_tick i) t.last_tick;
}

-- ---- ticks

tick-happens : (b : Building) (E : List Delivery) (moment : ℤ) → is_moment b moment ≡ true → is_later (last_tick_of b E) moment ≡ true
    → clock_event b E (delivery_of.Tick moment) ≡ Tick moment ∷ []
tick-happens b E moment in_range later = rw (in_range, later) refl

-- a tick that is not later, or out of range
pub tables-old : (b : Building) (E : List Delivery) (moment : ℤ) → is_later (last_tick_of b E) moment ≡ false
    → tables b (E ++ delivery_of.Tick moment ∷ []) ≡ tables b E
tables-old b E moment old = tables-no_event b E (delivery_of.Tick moment) refl (none (is_moment b moment))
  where
    none : (in_range : Bool) → cond (in_range && is_later (last_tick_of b E) moment) (Tick moment ∷ []) [] ≡ []
    none true = rw old refl
    none false = refl

pub tables-bad_moment : (b : Building) (E : List Delivery) (moment : ℤ) → is_moment b moment ≡ false
    → tables b (E ++ delivery_of.Tick moment ∷ []) ≡ tables b E
tables-bad_moment b E moment out = tables-no_event b E (delivery_of.Tick moment) refl (rw out refl)

pub tables-ticked : (b : Building) (E : List Delivery) (moment : ℤ) (change : Change) → is_moment b moment ≡ true
    → is_later (last_tick_of b E) moment ≡ true
    → let m = machine b E in Settles b m.imported m.shown (local_of b (Some moment)) [] (Some moment) change
    → tables b (E ++ delivery_of.Tick moment ∷ []) ≡ with_change change (tables b E)
unfolding tables settled tables-at
tables-ticked b E moment change in_range later settles =
    let m = machine b E in
    tables-clock b E (delivery_of.Tick moment) refl
    ∙ (ap (λ happened. tables-at (run b m happened) (λ q. taken_by b q E)) (tick-happens b E moment in_range later)
    ∙ sym (with_change-settles b m.imported m.shown (local_of b (Some moment)) [] (Some moment) change (tables b E) settles))

-- ---- imports

pub import-happens : (b : Building) (E : List Delivery) (rows : List CalendarEntry) → list_all (has_calendar b) rows ≡ true
    → clock_event b E (delivery_of.Import rows) ≡ Import rows ∷ []
import-happens b E rows all = rw all refl

pub tables-refused : (b : Building) (E : List Delivery) (rows : List CalendarEntry) → list_all (has_calendar b) rows ≡ false
    → tables b (E ++ delivery_of.Import rows ∷ []) ≡ tables b E
tables-refused b E rows not_all = tables-no_event b E (delivery_of.Import rows) refl (rw not_all refl)

imported-tables : (b : Building) (E : List Delivery) (items : List ImportedEntry)
    → with_each with_imported items (tables b E).imported
    ≡ (λ calendar text. list_any (bytes_eq text) (with_items (machine b E).imported items calendar))
imported-tables b E items =
    λ i calendar text. Tells-items (tables b E).imported (machine b E).imported items (Tells-tables b E) calendar text i

pub tables-imported : (b : Building) (E : List Delivery) (rows : List CalendarEntry) (change : Change)
    → list_all (has_calendar b) rows ≡ true
    → let m = machine b E in
    let items = added b m.imported rows in
    Settles b (with_items m.imported items) m.shown (local_of b m.last_tick) items None change
    → tables b (E ++ delivery_of.Import rows ∷ []) ≡ with_change change (tables b E)
unfolding tables settled tables-at
tables-imported b E rows change all settles =
    let m = machine b E in
    let items = added b m.imported rows in
    let imported = with_items m.imported items in
    tables-clock b E (delivery_of.Import rows) refl
    ∙ (ap (λ happened. tables-at (run b m happened) (λ q. taken_by b q E)) (import-happens b E rows all)
    ∙ (sym (λ i. record {
      places = with_each with_place (writes_at b imported m.shown (local_of b m.last_tick)) m.places;
      next = (tables b E).next;
      row = (tables b E).row;
      shown = with_each with_shown (changes_shown_at b imported m.shown (local_of b m.last_tick)) m.shown;
      imported = imported-tables b E items i;
      last_tick = m.last_tick;
    })
    ∙ sym (with_change-settles b imported m.shown (local_of b m.last_tick) items None change (tables b E) settles)))

-- ---- replies

pub reply-bad_moment : (b : Building) (E : List Delivery) (moment : ℤ) → is_moment b moment ≡ false
    → reply b E (delivery_of.Tick moment) ≡ answer_of.BadMoment
unfolding reply
reply-bad_moment b E moment out = rw out refl

pub reply-old : (b : Building) (E : List Delivery) (moment : ℤ) → is_moment b moment ≡ true → is_later (last_tick_of b E) moment ≡ false
    → reply b E (delivery_of.Tick moment) ≡ answer_of.Old
unfolding reply
reply-old b E moment in_range old = rw (in_range, old) refl

pub reply-ticked : (b : Building) (E : List Delivery) (moment : ℤ) → is_moment b moment ≡ true → is_later (last_tick_of b E) moment ≡ true
    → reply b E (delivery_of.Tick moment) ≡ answer_of.Ticked (writes_of b (machine b E) (Some moment))
unfolding reply
reply-ticked b E moment in_range later = rw (in_range, later) refl

pub reply-refused : (b : Building) (E : List Delivery) (rows : List CalendarEntry) (place : ℕ)
    → refused_record b rows ≡ Some place → reply b E (delivery_of.Import rows) ≡ answer_of.ImportRefused place
unfolding reply
reply-refused b E rows place refused = rw refused refl

pub reply-imported : (b : Building) (E : List Delivery) (rows : List CalendarEntry) → refused_record b rows ≡ None
    → reply b E (delivery_of.Import rows) ≡ imported_reply b (machine b E) rows
unfolding reply
reply-imported b E rows none = rw none refl
