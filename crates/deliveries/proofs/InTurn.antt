-- No tolerance is used.
use Rattle.std.proofs.Common.{◌≡◌, ℕ, zero, ◌+◌, ◌-◌, ◌<◌, ◌≤◌, ◌==◌, Bool, true, false, ◌&&◌, not, List, [], ◌∷◌, ◌++◌}
use Rattle.std.proofs.Common.{map, Option, Some, None, is_some, pos, ℤ, length}
use Rattle.std.proofs.Common.{refl, sym, ap, ap₂, ◌∙◌, append_assoc, subst, arith, nat_lt}
use Rattle.std.specs.List.{flat_map, list_all}
use Rattle.std.proofs.lemmas.Bool.Decides.{nat_tests}
use Rattle.std.proofs.lemmas.Bool.{false≢true}
use Rattle.std.proofs.lemmas.List.{append-nil, length-append}
use Rattle.building.specs.Building.{Building}
use Rattle.points.specs.declared.command_row.CommandRow.{CommandRow}
use Rattle.points.specs.declared.content.Content.{Content}
use Rattle.points.specs.declared.panel.Panel.{Panel}
use Rattle.sched.specs.declared.calendar.CalendarEntry.{CalendarEntry}
use Rattle.desk_settling.specs.Calendars.{with_items}
use Rattle.points.specs.Texts.{Text}
use Rattle.building.specs.declared.named_calendar.NamedCalendar.{NamedCalendar}
use Rattle.std.specs.Prelude.{slice_get}
use Rattle.window.specs.declared.verdict.Verdict.TheVariants as verdict
use Rattle.window.specs.Taken as asks
use Rattle.window.specs.Verdict.{verdict_of}
use Rattle.window.specs.View.{content_of_row, kept_at}
use Rattle.window.specs.Window.{remembered, window}
use Rattle.window.proofs.FrontLemmas.{IsFront-front, IsWithin-accepted, front-take}
use Rattle.window.proofs.PlanLemmas.{IsSkipWithin-accepted, take-skip_accepted}
use Rattle.deliveries.specs.declared.delivery.Delivery.{Delivery}
use Rattle.deliveries.specs.declared.delivery.Delivery.TheVariants as delivery_of
use Rattle.deliveries.specs.Accepted.{asked, asks_of, panel_named, panel_of, taken_by}
use Rattle.deliveries.specs.Events.{clock_event, has_calendar, is_later, is_moment, last_tick_of, machine}
use Rattle.deliveries.specs.Laws.{HasDistinctSchedules}
use Rattle.deliveries.specs.Machine.{Machine, added, added_by, added_to, is_known, with_rows}
use Rattle.deliveries.specs.Reply.{refused_record, reply, reply_on}
use Rattle.deliveries.specs.Tables.{tables}
use Rattle.deliveries.proofs.AgainLemmas.{both-parts}
use Rattle.deliveries.proofs.ClockLemmas.{reply-imported, reply-ticked}
use Rattle.deliveries.proofs.StepLemmas.{Asks, asks-none, asks-unknown, keeps-tables, next-tables, reply-asked, taken-here}
use Rattle.deliveries.specs.Cut.{added_rows, cut_event, import_of, row_that_adds}
use Rattle.window.specs.StraightenedLaws.{WalksStraight}
use Rattle.deliveries.specs.StraightLaws.{AddsAll, EachAfter, IsAnswered, IsInTurn, IsParked, IsTicked, StaysParked}
use Rattle.window.specs.Straight.{AreNext, IsNext}
use Rattle.deliveries.specs.StraightList.{sent, sent_by_clock, straightened_after, straightened_by}
use Rattle.window.specs.Straightened.{straightened}
use Rattle.deliveries.proofs.CutLemmas.{added-added_rows, have_calendars-added_rows}
use Rattle.deliveries.proofs.MachineSame.{AreSent, AreSent-straightened, Asks-made, Does-straightened, Follows, Follows-none}
use Rattle.deliveries.proofs.MachineSame.{Follows-push, last_tick-same, taken-sent, straightened-asked}
use Rattle.deliveries.proofs.MachineSame.{straightened-unasked}
use Rattle.window.proofs.ParkedLemmas.{AreAhead, IsAhead}
use Rattle.window.proofs.WalkLemmas.{none_of, walk_stays_straight}
use Rattle.deliveries.proofs.RefusedLemmas.{refused-at}

pub EachAfter-append : (Holds : Building → List Delivery → Delivery → Type 0) (b : Building) (E xs ys : List Delivery)
    → EachAfter Holds b E xs → EachAfter Holds b (E ++ xs) ys → EachAfter Holds b E (xs ++ ys)
EachAfter-append Holds b E [] ys first more = subst (λ F. EachAfter Holds b F ys) (append-nil E) more
EachAfter-append Holds b E (x ∷ xs) ys first more = (
  first.0,
  EachAfter-append Holds b (E ++ x ∷ []) xs ys first.1 (subst (λ F. EachAfter Holds b F ys) (sym (append_assoc E (x ∷ []) xs)) more),
)

-- ---- replies to commands

no_row : (row : Option CommandRow) → content_of_row row ≡ None → row ≡ None
no_row None e = refl
no_row (Some row) e = absurd cc

kept-none : (t : asks.Taken) (number : ℕ) → asks.content_at t number ≡ None → kept_at t number ≡ None
kept-none t number none = by (nat_lt number (asks.front t - remembered)) refl
  where
    by : (old : Bool) → nat_lt number (asks.front t - remembered) ≡ old → kept_at t number ≡ None
    by true e = rw e refl
    by false e = rw e none

pub row-none : (b : Building) (T : List Delivery) (p : Text) (number : ℕ) → asks.content_at (taken_by b p T) number ≡ None
    → (tables b T).row p number ≡ None
row-none b T p number none = no_row ((tables b T).row p number) (keeps-tables b T p number ∙ kept-none (taken_by b p T) number none)

verdict-front : (t : asks.Taken) (n : ℕ) (content : Content) (row : Option CommandRow) → n ≡ asks.front t → row ≡ None
    → verdict_of t (asks.Command n content) row ≡ verdict.Applies
verdict-front t n content row at none =
    let kept : nat_lt n (asks.front t - remembered) ≡ false = grind (arith, nat_tests) in
    let level : nat_lt n (asks.front t) ≡ false = grind (arith, nat_tests) in
    let same : (n == asks.front t) ≡ true = grind (arith, nat_tests) in
    rw (kept, none, level, same) refl

verdict-ahead : (t : asks.Taken) (n : ℕ) (content : Content) (row : Option CommandRow) → asks.front t < n → n < asks.front t + window
    → row ≡ None → verdict_of t (asks.Command n content) row ≡ verdict.Parked
verdict-ahead t n content row past near none =
    let kept : nat_lt n (asks.front t - remembered) ≡ false = grind (arith, nat_tests) in
    let above : nat_lt n (asks.front t) ≡ false = grind (arith, nat_tests) in
    let apart : (n == asks.front t) ≡ false = grind (arith, nat_tests) in
    let within : nat_lt n (asks.front t + window) ≡ true = grind (arith, nat_tests) in
    rw (kept, none, above, apart, within) refl

-- ---- asks that are sent

InTurn-ask : (b : Building) (T : List Delivery) (p : Text) (ask : asks.Ask) → Asks b (sent p ask) ask → IsNext (taken_by b p T) ask
    → IsInTurn b T (sent p ask)
InTurn-ask b T p (asks.Command n content) asking next =
    let t = taken_by b p T in
    let d = delivery_of.Command p (pos n) content in
    let none = none_of (asks.content_at t n) (subst (λ m. asks.is_key t m ≡ false) (sym next) (IsFront-front t).missing) in
    let is = verdict-front t n content ((tables b T).row p n) next (row-none b T p n none) in
    subst IsAnswered (sym (reply-asked b T d (asks.Command n content) asking
    ∙ ap (λ v. reply_on v (asks.front t) (asks.front (taken_by b p (T ++ d ∷ []))) (pos n) ((machine b (T ++ d ∷ [])).answers p n)) is)) tt
InTurn-ask b T p (asks.Skip upto) asking next =
    let t = taken_by b p T in
    let d = delivery_of.Skip p (pos upto) in
    let above = (IsSkipWithin-accepted t upto next).above in
    let grown = take-skip_accepted t upto next in
    let given_up = (IsFront-front (asks.take t (asks.Skip upto))).given_up in
    let limit = ap (λ (u : asks.Taken). u.upto) grown in
    let moves : asks.front t < asks.front (asks.take t (asks.Skip upto)) = omega (arith, above, given_up, limit) in
    subst (λ n. n < (tables b (T ++ d ∷ [])).next p) (sym (next-tables b T p))
    (subst (λ n. asks.front t < n) (sym (next-tables b (T ++ d ∷ []) p ∙ ap asks.front (taken-here b T d (asks.Skip upto) asking))) moves)

StaysParked-ask : (b : Building) (T : List Delivery) (p : Text) (ask : asks.Ask) → Asks b (sent p ask) ask → IsAhead (taken_by b p T) ask
    → StaysParked b T (sent p ask)
StaysParked-ask b T p (asks.Command n content) asking ahead =
    let t = taken_by b p T in
    let d = delivery_of.Command p (pos n) content in
    let within = IsWithin-accepted t n ahead.0 in
    let is = verdict-ahead t n content ((tables b T).row p n) ahead.1 within.below
    (row-none b T p n (none_of (asks.content_at t n) within.free)) in
    subst IsParked (sym (reply-asked b T d (asks.Command n content) asking
    ∙ ap (λ v. reply_on v (asks.front t) (asks.front (taken_by b p (T ++ d ∷ []))) (pos n) ((machine b (T ++ d ∷ [])).answers p n)) is)) tt
StaysParked-ask b T p (asks.Skip upto) asking ahead = absurd ahead

module _ (b : Building) (p : Text) (panel : Panel) (known : panel_named b p ≡ Some panel) where
  pub InTurn-all_sent : (T : List Delivery) (xs : List asks.Ask) → AreSent p xs → AreNext (taken_by b p T) xs
      → EachAfter IsInTurn b T (map (sent p) xs)
  InTurn-all_sent T [] are next = tt
  InTurn-all_sent T (x ∷ xs) are next =
      let asking = Asks-made b p panel x known are.0 in (
        InTurn-ask b T p x asking next.0,
        InTurn-all_sent (T ++ sent p x ∷ []) xs are.1 (subst (λ t. AreNext t xs) (sym (taken-sent b T p x asking)) next.1),
      )

  pub StaysParked-all_sent : (T : List Delivery) (xs : List asks.Ask) → AreSent p xs → AreAhead (taken_by b p T) xs
      → EachAfter StaysParked b T (map (sent p) xs)
  StaysParked-all_sent T [] are ahead = tt
  StaysParked-all_sent T (x ∷ xs) are ahead =
      let asking = Asks-made b p panel x known are.0 in (
        StaysParked-ask b T p x asking ahead.0,
        StaysParked-all_sent (T ++ sent p x ∷ []) xs are.1 (subst (λ t. AreAhead t xs) (sym (taken-sent b T p x asking)) ahead.1),
      )

-- ---- ticks and imports

none_some : (found : Option ℕ) → is_some found ≡ false → found ≡ None
none_some None e = refl
none_some (Some n) e = absurd (false≢true (sym e))

-- a row adds one item at most
one-added : (b : Building) (imported : Text → List Text) (row : CalendarEntry)
    → length (row_that_adds row (added_by b imported row)) ≡ length (added_by b imported row)
one-added b imported row = by (slice_get b.calendars row.calendar.index)
  where
    by : (found : Option NamedCalendar) → length (row_that_adds row (added_to imported row.entry found))
        ≡ length (added_to imported row.entry found)
    by None = refl
    by (Some calendar) = of (is_known imported calendar row.entry) refl
      where
        of : (known : Bool) → is_known imported calendar row.entry ≡ known
            → length (row_that_adds row (added_to imported row.entry (Some calendar)))
            ≡ length (added_to imported row.entry (Some calendar))
        of true e = rw e refl
        of false e = rw e refl

length-added_rows : (b : Building) (imported : Text → List Text) (rows : List CalendarEntry)
    → length (added_rows b imported rows) ≡ length (added b imported rows)
length-added_rows b imported [] = refl
length-added_rows b imported (row ∷ rows) =
    let items = added_by b imported row in
    length-append (row_that_adds row items) (added_rows b (with_items imported items) rows)
    ∙ (ap₂ (λ x y. x + y) (one-added b imported row) (length-added_rows b (with_items imported items) rows)
    ∙ sym (length-append items (added b (with_items imported items) rows)))

level : (n : ℕ) → n - n ≡ zero
level n = omega arith

-- an import of the rows that add, adds them all
InTurn-added : (b : Building) (T : List Delivery) (row : CalendarEntry) (more : List CalendarEntry)
    → list_all (has_calendar b) (row ∷ more) ≡ true → length (added b (machine b T).imported (row ∷ more)) ≡ length (row ∷ more)
    → AddsAll (reply b T (delivery_of.Import (row ∷ more)))
InTurn-added b T row more all count =
    let rows = row ∷ more in
    let none = none_some (refused_record b rows) (refused-at b rows ∙ ap not all) in
    let now = with_rows b (machine b T) rows in
    subst AddsAll (sym (reply-imported b T rows none)) (
      subst (λ n. zero < n) (sym count) (omega arith),
      ap (λ n. length rows - n) count ∙ level (length rows),
    )

InTurn-import : (b : Building) (E T : List Delivery) (rows : List CalendarEntry) → machine b T ≡ machine b E
    → EachAfter IsInTurn b T (flat_map sent_by_clock (flat_map (cut_event b (machine b E)) (clock_event b E (delivery_of.Import rows))))
InTurn-import b E T rows same = by (list_all (has_calendar b) rows) refl
  where
    held : added b (machine b T).imported (added_rows b (machine b E).imported rows) ≡ added b (machine b E).imported rows
    held = ap (λ (m : Machine). added b m.imported (added_rows b (machine b E).imported rows)) same
        ∙ added-added_rows b (machine b E).imported rows

    of : (again : List CalendarEntry) → list_all (has_calendar b) again ≡ true → length (added b (machine b T).imported again)
        ≡ length again
        → EachAfter IsInTurn b T (flat_map sent_by_clock (import_of again ++ []))
    of [] all count = tt
    of (row ∷ more) all count = (InTurn-added b T row more all count, tt)

    by : (happens : Bool) → list_all (has_calendar b) rows ≡ happens
        → EachAfter IsInTurn b T (flat_map sent_by_clock (flat_map (cut_event b (machine b E)) (clock_event b E (delivery_of.Import rows))))
    by false e = rw e tt
    by true e = rw e (of (added_rows b (machine b E).imported rows) (have_calendars-added_rows b (machine b E).imported rows e)
        (ap length held ∙ sym (length-added_rows b (machine b E).imported rows)))

InTurn-tick : (b : Building) (E T : List Delivery) (moment : ℤ) (m : Machine) → last_tick_of b T ≡ last_tick_of b E
    → EachAfter IsInTurn b T (flat_map sent_by_clock (flat_map (cut_event b m) (clock_event b E (delivery_of.Tick moment))))
InTurn-tick b E T moment m same = by (is_moment b moment && is_later (last_tick_of b E) moment) refl
  where
    by : (happens : Bool) → (is_moment b moment && is_later (last_tick_of b E) moment) ≡ happens
        → EachAfter IsInTurn b T (flat_map sent_by_clock (flat_map (cut_event b m) (clock_event b E (delivery_of.Tick moment))))
    by false e = rw e tt
    by true e =
        let parts = both-parts (is_moment b moment) (is_later (last_tick_of b E) moment) e in
        rw e (subst IsTicked (sym (reply-ticked b T moment parts.0 (ap (λ last. is_later last moment) same ∙ parts.1))) tt, tt)

InTurn-clock : (b : Building) (E T : List Delivery) (d : Delivery) → machine b T ≡ machine b E
    → EachAfter IsInTurn b T (flat_map sent_by_clock (flat_map (cut_event b (machine b E)) (clock_event b E d)))
InTurn-clock b E T (delivery_of.Command panel number content) same = tt
InTurn-clock b E T (delivery_of.Skip panel upto) same = tt
InTurn-clock b E T (delivery_of.Tick moment) same = InTurn-tick b E T moment (machine b E) (last_tick-same b E T same)
InTurn-clock b E T (delivery_of.Import rows) same = InTurn-import b E T rows same

-- ---- the walk

InTurn-unasked : (b : Building) (E T : List Delivery) (d : Delivery) → ((q : Text) → asks_of b q d ≡ []) → Follows b E T
    → EachAfter IsInTurn b T (straightened_by b E d)
InTurn-unasked b E T d nothing straightens =
    subst (λ X. EachAfter IsInTurn b T X) (sym (straightened-unasked b E d nothing)) (InTurn-clock b E T d straightens.machines)

InTurn-asked : (b : Building) (E T : List Delivery) (d : Delivery) (ask : asks.Ask) → Asks b d ask → Follows b E T
    → EachAfter IsInTurn b T (straightened_by b E d)
InTurn-asked b E T d ask asking straightens =
    let p = panel_of d in
    let t = taken_by b p E in
    let grown = taken-here b E d ask asking in
    let walks = subst (λ u. WalksStraight (taken_by b p T) t u) (sym grown)
    (walk_stays_straight (taken_by b p T) t ask (straightens.panels p)) in
    let rises = subst (λ u. asks.front t ≤ asks.front u) (sym grown) (front-take t ask) in
    subst (λ X. EachAfter IsInTurn b T X) (sym (straightened-asked b E d ask asking))
    (InTurn-all_sent b p asking.panel asking.known T (straightened t (taken_by b p (E ++ d ∷ []))) (AreSent-straightened b p E (E
    ++ d ∷ []) rises) walks.next)

InTurn-straightened : (b : Building) (E T : List Delivery) (d : Delivery) → Follows b E T → EachAfter IsInTurn b T (straightened_by b E d)
InTurn-straightened b E T d straightens = by (panel_named b (panel_of d)) refl (asked d) refl
  where
    by : (found : Option Panel) → panel_named b (panel_of d) ≡ found → (ask : Option asks.Ask) → asked d ≡ ask
        → EachAfter IsInTurn b T (straightened_by b E d)
    by None unknown ask e = InTurn-unasked b E T d (λ q. asks-unknown b q d unknown) straightens
    by (Some panel) known None e = InTurn-unasked b E T d (λ q. asks-none b q d e) straightens
    by (Some panel) known (Some ask) e = InTurn-asked b E T d ask (record { panel = panel; known = known; asks_it = e }) straightens

InTurn-after : (b : Building) (E T ds : List Delivery) → HasDistinctSchedules b → Follows b E T
    → EachAfter IsInTurn b T (straightened_after b E ds)
InTurn-after b E T [] distinct straightens = tt
InTurn-after b E T (d ∷ ds) distinct straightens =
    EachAfter-append IsInTurn b T (straightened_by b E d) (straightened_after b (E ++ d ∷ []) ds) (InTurn-straightened b E T d straightens)
    (InTurn-after b (E ++ d ∷ []) (T
    ++ straightened_by b E d) ds distinct
    (Follows-push b E T d (straightened_by b E d) distinct straightens (Does-straightened b E T d straightens)))

pub InTurn-walk : (b : Building) (L : List Delivery) → HasDistinctSchedules b → EachAfter IsInTurn b [] (straightened_after b [] L)
InTurn-walk b L distinct = InTurn-after b [] [] L distinct (Follows-none b)
