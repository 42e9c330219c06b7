-- What the store answers of a panel is what its asks become.
use Rattle.std.proofs.Common.{◌≡◌, ℕ, suc, zero, ◌+◌, ◌-◌, ◌<◌, ◌≤◌, Bool, true, false, cond, not, ◌&&◌, List, [], ◌∷◌, ◌++◌, map, Option}
use Rattle.std.proofs.Common.{Some, None, is_some, ℤ}
use Rattle.std.proofs.Common.{refl, sym, ap, ◌∙◌, subst, arith, inl, inr, nat_lt, Result, Ok, Err, OnOk}
use Rattle.std.specs.List.{All, flat_map, list_all}
use Rattle.std.specs.Str.{bytes_eq}
use Rattle.std.proofs.lemmas.Bool.Decides.{nat_tests}
use Rattle.std.proofs.lemmas.Bool.{cases_lt, false≢true}
use Rattle.std.proofs.lemmas.List.{append-nil}
use Rattle.std.proofs.lemmas.List.Elements.{All-cons, All-nil}
use Rattle.building.specs.Building.{Building}
use Rattle.points.specs.declared.command_row.CommandRow.{CommandRow}
use Rattle.points.specs.declared.content.Content.{Content}
use Rattle.points.specs.declared.numbered_row.NumberedRow.{NumberedRow}
use Rattle.points.specs.Run.{IsRun, Rows, row_before, rows_between, rows_from}
use Rattle.sched.specs.declared.calendar.CalendarEntry.{CalendarEntry}
use Rattle.store.specs.Standing.{Content as a_content, Standing}
use Rattle.points.specs.Texts.{Text}
use Rattle.points.specs.declared.numbered_row.TheConstants.{LAST_NUMBER}
use Rattle.window.specs.Applied.{applied, contents_from}
use Rattle.window.specs.Drain.{contents_of}
use Rattle.window.specs.Taken as asks
use Rattle.window.specs.View.{Keeps}
use Rattle.window.specs.Window.{remembered, window}
use Rattle.window.proofs.FrontLemmas.{EndsInWindow, IsFront-front, ends_in_window}
use Rattle.window.proofs.RunLemmas.{Keeps-from_front, Keeps-remembered, contents_of-rows_from, is_some-rows}
use Rattle.deliveries.specs.declared.delivery.Delivery.{Delivery}
use Rattle.deliveries.specs.declared.delivery.Delivery.TheVariants as delivery_of
use Rattle.deliveries.specs.Accepted.{asked, asks_of, listed, panel_named, panel_of, taken_by}
use Rattle.deliveries.specs.Delivered.{Holds}
use Rattle.deliveries.specs.Tables.{tables}
use Rattle.deliveries.proofs.EventLemmas.{taken_by-push}
use Rattle.deliveries.proofs.RangeLemmas.{front_greatest}
use Rattle.deliveries.proofs.StepLemmas.{keeps-tables, next-tables}
use Rattle.desk_straighten.specs.Kept.{HoldsSome}
use Rattle.desk_straighten.specs.Steps.{import_if, is_imported, is_ticked}
use Rattle.window.specs.Between.{asks_between}
use Rattle.deliveries.specs.Cut.{added_rows, cut_event, import_of}
use Rattle.deliveries.specs.Events.{clock_event, has_calendar, is_later, is_moment, last_tick_of, machine}
use Rattle.deliveries.specs.Reply.{refused_record, reply}
use Rattle.deliveries.proofs.ClockLemmas.{reply-bad_moment, reply-imported, reply-old, reply-refused, reply-ticked}
use Rattle.deliveries.proofs.RangeLemmas.{key_greatest}
use Rattle.deliveries.proofs.MachineSame.{nothing-import, nothing-tick, straightened-unasked}
use Rattle.deliveries.specs.StraightList.{sent, sent_by_clock, straightened_by}
use Rattle.window.specs.Straightened.{straightened}
use Rattle.deliveries.proofs.InTurn.{row-none}
use Rattle.window.proofs.BetweenLemmas.{front-near, straightened-asks_between}
use Rattle.deliveries.proofs.RiseLemmas.{front-push}
use Rattle.window.proofs.WalkLemmas.{none_of}
use Rattle.deliveries.proofs.RefusedLemmas.{refused-at}

-- ---- what a store holds

pub next-held : (b : Building) (E : List Delivery) (s : Standing) → Holds b E s → (p : Text)
    → s.content.tables.next p ≡ asks.front (taken_by b p E)
next-held b E s held p = ap (λ (c : a_content). c.tables.next p) held ∙ next-tables b E p

pub next-greatest : (b : Building) (s : Standing) → HoldsSome b s → (p : Text) → s.content.tables.next p ≤ LAST_NUMBER + 1
next-greatest b s some p =
    let is = next-held b some.earlier s some.holds p in
    let most = front_greatest b p some.earlier in
    omega (arith, is, most)

pub gap-held : (b : Building) (s : Standing) → HoldsSome b s → (p : Text) → s.content.tables.row p (s.content.tables.next p) ≡ None
gap-held b s some p =
    let E = some.earlier in
    let t = taken_by b p E in
    ap (λ (c : a_content). c.tables.row p (c.tables.next p)) some.holds
    ∙ (ap ((tables b E).row p) (next-tables b E p)
    ∙ row-none b E p (asks.front t) (none_of (asks.content_at t (asks.front t)) (IsFront-front t).missing))

-- ---- a run up to the next number

none-some : (row : Option CommandRow) → row ≡ None → is_some row ≡ true → ⊥
none-some row none some = false≢true (ap is_some (sym none) ∙ some)

pub run-ends : (rows : Rows) (from upto : ℕ) (run : List NumberedRow) → rows upto ≡ None → (is : IsRun rows from upto run)
    → run ≡ rows_between rows from upto
run-ends rows from upto run none is =
    let reaches = is.reaches in
    let ends : is.end ≡ upto = elim (cases_lt upto is.end) [
      | inl past ↦ absurd (none-some (rows upto) none (is.unbroken upto (omega arith) past))
      | inr low ↦ omega (arith, low, reaches)
    ] in
    is.is_between ∙ ap (λ (end : ℕ). rows_between rows from end) ends

All-row_before : (P : NumberedRow → Type 0) (n : ℕ) (row : Option CommandRow) (rest : List NumberedRow)
    → ((r : CommandRow) → P (record { number = n; row = r })) → All P rest → All P (row_before n row rest)
All-row_before P n None rest here all = all
All-row_before P n (Some r) rest here all = All-cons P (record { number = n; row = r }) rest (here r) all

All-rows_from : (rows : Rows) (count n end : ℕ) → n + count ≤ end
    → All (λ (entry : NumberedRow). entry.number < end) (rows_from count rows n)
All-rows_from rows zero n end within = All-nil (λ (entry : NumberedRow). entry.number < end)
All-rows_from rows (suc count) n end within =
    All-row_before (λ entry. entry.number < end) n (rows n) (rows_from count rows (n + 1)) (λ r. omega arith)
    (All-rows_from rows count (n + 1) end (omega arith))

pub run-below : (rows : Rows) (from upto : ℕ) (run : List NumberedRow) → from ≤ upto → rows upto ≡ None → IsRun rows from upto run
    → All (λ (entry : NumberedRow). entry.number < upto) run
run-below rows from upto run low none is =
    subst (λ xs. All (λ (entry : NumberedRow). entry.number < upto) xs) (sym (run-ends rows from upto run none is))
    (All-rows_from rows (upto - from) from upto (omega (arith, low)))

-- ---- what an ask becomes

near-listed : (t : asks.Taken) (ask : Option asks.Ask) → EndsInWindow t → asks.front (asks.taken t (listed ask)) ≤ asks.front t + window
near-listed t None ends = omega arith
near-listed t (Some ask) ends = front-near t ask ends

near-push : (b : Building) (q : Text) (E : List Delivery) (d : Delivery)
    → asks.front (taken_by b q (E ++ d ∷ [])) ≤ asks.front (taken_by b q E) + window
near-push b q E d =
    let t = taken_by b q E in
    subst (λ u. asks.front u ≤ asks.front t + window) (sym (taken_by-push b q E d))
    (by (bytes_eq (panel_of d) q && is_some (panel_named b q)) refl)
  where
    by : (here : Bool) → (bytes_eq (panel_of d) q && is_some (panel_named b q)) ≡ here
        → asks.front (asks.taken (taken_by b q E) (asks_of b q d)) ≤ asks.front (taken_by b q E) + window
    by true e = rw e (near-listed (taken_by b q E) (asked d) (ends_in_window (flat_map (asks_of b q) E)))
    by false e = rw e (omega arith)

window-remembered : window ≤ remembered
unfolding window remembered
window-remembered = omega arith

-- what a panel's rows hold after a delivery, from the next number before it on, is what was applied
pub contents-held : (b : Building) (p : Text) (E : List Delivery) (d : Delivery) → let t = taken_by b p E in
    let now = taken_by b p (E ++ d ∷ []) in
    contents_of (rows_between ((tables b (E ++ d ∷ [])).row p) (asks.front t) (asks.front now)) ≡ applied t now
unfolding applied
contents-held b p E d =
    let t = taken_by b p E in
    let now = taken_by b p (E ++ d ∷ []) in
    let near = near-push b p E d in
    contents_of-rows_from (asks.front now - asks.front t) ((tables b (E ++ d ∷ [])).row p) now (asks.front t)
    (λ n from. Keeps-remembered ((tables b (E ++ d ∷ [])).row p) now n (keeps-tables b (E ++ d ∷ []) p) (known n from near))
  where
    known : (n : ℕ) → asks.front (taken_by b p E) ≤ n
        → asks.front (taken_by b p (E ++ d ∷ [])) ≤ asks.front (taken_by b p E) + window
        → nat_lt n (asks.front (taken_by b p (E ++ d ∷ [])) - remembered) ≡ false
    known n from near =
        let long = window-remembered in
        let low : asks.front (taken_by b p (E ++ d ∷ [])) - remembered ≤ n = omega (arith, from, near, long) in
        grind (arith, nat_tests)

-- what the tables hold after a delivery is what it becomes
pub straightened-held : (b : Building) (p : Text) (E : List Delivery) (d : Delivery) (s : Standing) (before : ℕ) → Holds b (E ++ d ∷ []) s
    → before ≡ asks.front (taken_by b p E)
    → asks_between before (contents_of (rows_between (s.content.tables.row p) before (s.content.tables.next p))) (s.content.tables.next p)
    ≡ straightened (taken_by b p E) (taken_by b p (E ++ d ∷ []))
straightened-held b p E d s before held at =
    let t = taken_by b p E in
    let now = taken_by b p (E ++ d ∷ []) in
    ap (λ (c : a_content). asks_between before (contents_of (rows_between (c.tables.row p) before (c.tables.next p)))
    (c.tables.next p)) held
    ∙ (ap (λ (end : ℕ). asks_between before (contents_of (rows_between ((tables b (E ++ d ∷ [])).row p) before end)) end)
    (next-tables b (E ++ d ∷ []) p)
    ∙ (ap (λ (from : ℕ). asks_between from (contents_of (rows_between ((tables b (E ++ d ∷ [])).row p) from (asks.front now)))
    (asks.front now)) at
    ∙ (ap (λ contents. asks_between (asks.front t) contents (asks.front now)) (contents-held b p E d)
    ∙ sym (straightened-asks_between t now (front-push b p E d)))))

pub before-after : (b : Building) (p : Text) (E : List Delivery) (d : Delivery) (s : Standing) (before : ℕ) → Holds b (E ++ d ∷ []) s
    → before ≡ asks.front (taken_by b p E) → before ≤ s.content.tables.next p
before-after b p E d s before held at =
    let is = next-held b (E ++ d ∷ []) s held p in
    let rises = front-push b p E d in
    omega (arith, at, is, rises)

pub straightened_by-command : (b : Building) (E : List Delivery) (p : Text) (number : ℤ) (content : Content)
    → let d = delivery_of.Command p number content in
    straightened_by b E d ≡ map (sent p) (straightened (taken_by b p E) (taken_by b p (E ++ d ∷ [])))
straightened_by-command b E p number content = append-nil _

-- the run that is read up to the next number
pub record ReadsRun (rows : Rows) (before after : ℕ) (run : List NumberedRow) : Type 0 where
  pub below : All (λ (entry : NumberedRow). entry.number < after) run
  pub is : run ≡ rows_between rows before after

pub ReadsRun-held : (b : Building) (s read : Standing) (p : Text) (before after : ℕ) (run : List NumberedRow) → HoldsSome b s
    → read.content ≡ s.content → after ≡ s.content.tables.next p → before ≤ s.content.tables.next p
    → IsRun (read.content.tables.row p) before after run → ReadsRun (s.content.tables.row p) before after run
ReadsRun-held b s read p before after run some same at low is =
    let rows = s.content.tables.row p in
    let none : rows after ≡ None = ap rows at ∙ gap-held b s some p in
    let here : IsRun rows before after run = subst (λ (c : a_content). IsRun (c.tables.row p) before after run) same is in
    record { below = run-below rows before after run (omega (arith, at, low)) none here; is = run-ends rows before after run none here }

pub on_ok : {A F : Type 0} (r : Result A F) (P Q : Type 0) → (P → Q) → OnOk r P → OnOk r Q
on_ok (Ok x) P Q f p = f p
on_ok (Err e) P Q f p = p

-- ---- what is parked

-- the parked commands, as they are read
pub record ReadsParked (t : asks.Taken) (run : List NumberedRow) : Type 0 where
  pub in_range : All (λ (entry : NumberedRow). entry.number ≤ LAST_NUMBER) run
  pub is : contents_of run ≡ contents_from window t (asks.front t)

All-rows_kept : (rows : Rows) (t : asks.Taken) (count n : ℕ) → Keeps rows t → asks.front t ≤ n
    → ((number : ℕ) → asks.is_key t number ≡ true → number ≤ LAST_NUMBER)
    → All (λ (entry : NumberedRow). entry.number ≤ LAST_NUMBER) (rows_from count rows n)
All-rows_kept rows t zero n keeps from most = All-nil (λ (entry : NumberedRow). entry.number ≤ LAST_NUMBER)
All-rows_kept rows t (suc count) n keeps from most =
    by (rows n) refl (All-rows_kept rows t count (n + 1) keeps (omega arith) most)
  where
    by : (row : Option CommandRow) → rows n ≡ row → All (λ (entry : NumberedRow). entry.number ≤ LAST_NUMBER) (rows_from count rows (n + 1))
        → All (λ (entry : NumberedRow). entry.number ≤ LAST_NUMBER) (row_before n (rows n) (rows_from count rows (n + 1)))
    by None e more = rw e more
    by (Some row) e more =
        rw e (All-cons (λ (entry : NumberedRow). entry.number ≤ LAST_NUMBER) (record { number = n; row = row })
        (rows_from count rows (n + 1))
        (most n (sym (is_some-rows rows t n (Keeps-from_front rows t n keeps from)) ∙ ap is_some e)) more)

pub ReadsParked-held : (b : Building) (E : List Delivery) (s : Standing) → Holds b E s → (read : Standing) → read.content ≡ s.content
    → (p : Text) (next : ℕ) → next ≡ s.content.tables.next p → (run : List NumberedRow)
    → IsRun (read.content.tables.row p) next (next + window) run → ReadsParked (taken_by b p E) run
ReadsParked-held b E s held read same p next at run is =
    let t = taken_by b p E in
    let rows = (tables b E).row p in
    let keeps = keeps-tables b E p in
    let here : next ≡ asks.front t = at ∙ next-held b E s held p in
    let run_at : IsRun rows (asks.front t) (asks.front t + window) run =
    subst (λ (n : ℕ). IsRun rows n (n + window) run) here
    (subst (λ (c : a_content). IsRun (c.tables.row p) next (next + window) run) (same ∙ held) is) in
    let last = asks.front t + window in
    let ends = ends_in_window (flat_map (asks_of b p) E) in
    let none : rows last ≡ None = row-none b E p last (none_of (asks.content_at t last) (ends.none last (omega arith))) in
    let between = run-ends rows (asks.front t) last run none run_at in
    let count : last - asks.front t ≡ window = omega arith in
    record {
      in_range = subst (λ xs. All (λ (entry : NumberedRow). entry.number ≤ LAST_NUMBER) xs) (sym between)
          (All-rows_kept rows t (last - asks.front t) (asks.front t) keeps (omega arith) (key_greatest b p E));
      is = ap contents_of between
          ∙ (contents_of-rows_from (last - asks.front t) rows t (asks.front t) (λ n from. Keeps-from_front rows t n keeps from)
          ∙ ap (λ (many : ℕ). contents_from many t (asks.front t)) count);
    }

-- ---- ticks

pub straightened_by-tick : (b : Building) (E : List Delivery) (moment : ℤ)
    → straightened_by b E (delivery_of.Tick moment)
    ≡ cond (is_ticked (reply b E (delivery_of.Tick moment))) (delivery_of.Tick moment ∷ []) []
straightened_by-tick b E moment =
    straightened-unasked b E (delivery_of.Tick moment) (nothing-tick b moment)
    ∙ by (is_moment b moment) refl (is_later (last_tick_of b E) moment) refl
  where
    by : (in_range : Bool) → is_moment b moment ≡ in_range → (later : Bool) → is_later (last_tick_of b E) moment ≡ later
        → flat_map sent_by_clock (flat_map (cut_event b (machine b E)) (clock_event b E (delivery_of.Tick moment)))
        ≡ cond (is_ticked (reply b E (delivery_of.Tick moment))) (delivery_of.Tick moment ∷ []) []
    by false e later f = rw e (sym (ap (λ r. cond (is_ticked r) (delivery_of.Tick moment ∷ []) []) (reply-bad_moment b E moment e)))
    by true e false f = rw (e, f) (sym (ap (λ r. cond (is_ticked r) (delivery_of.Tick moment ∷ []) []) (reply-old b E moment e f)))
    by true e true f = rw (e, f) (sym (ap (λ r. cond (is_ticked r) (delivery_of.Tick moment ∷ []) []) (reply-ticked b E moment e f)))

pub window-is : 64 ≡ window
unfolding window
window-is = refl

pub straightened_by-skip : (b : Building) (E : List Delivery) (p : Text) (upto : ℤ)
    → let d = delivery_of.Skip p upto in
    straightened_by b E d ≡ map (sent p) (straightened (taken_by b p E) (taken_by b p (E ++ d ∷ [])))
straightened_by-skip b E p upto = append-nil _

-- ---- imports

import_if-rows : (rows : List CalendarEntry) → flat_map sent_by_clock (import_of rows ++ []) ≡ import_if true rows
import_if-rows [] = refl
import_if-rows (row ∷ rows) = refl

import_if-none : (rows : List CalendarEntry) → import_if false rows ≡ []
import_if-none [] = refl
import_if-none (row ∷ rows) = refl

pub straightened_by-import : (b : Building) (E : List Delivery) (rows : List CalendarEntry)
    → straightened_by b E (delivery_of.Import rows)
    ≡ import_if (is_imported (reply b E (delivery_of.Import rows))) (added_rows b (machine b E).imported rows)
straightened_by-import b E rows =
    straightened-unasked b E (delivery_of.Import rows) (nothing-import b rows)
    ∙ by (list_all (has_calendar b) rows) refl (refused_record b rows) refl
  where
    by : (all : Bool) → list_all (has_calendar b) rows ≡ all → (refused : Option ℕ) → refused_record b rows ≡ refused
        → flat_map sent_by_clock (flat_map (cut_event b (machine b E)) (clock_event b E (delivery_of.Import rows)))
        ≡ import_if (is_imported (reply b E (delivery_of.Import rows))) (added_rows b (machine b E).imported rows)
    by true e None f =
        rw e (import_if-rows (added_rows b (machine b E).imported rows)
        ∙ sym (ap (λ r. import_if (is_imported r) (added_rows b (machine b E).imported rows)) (reply-imported b E rows f)))
    by true e (Some place) f = absurd (false≢true (sym (sym (ap is_some f) ∙ (refused-at b rows ∙ ap not e))))
    by false e None f = absurd (false≢true (sym (ap is_some f) ∙ (refused-at b rows ∙ ap not e)))
    by false e (Some place) f =
        rw e (sym (ap (λ r. import_if (is_imported r) (added_rows b (machine b E).imported rows)) (reply-refused b E rows place f)
        ∙ import_if-none (added_rows b (machine b E).imported rows)))
