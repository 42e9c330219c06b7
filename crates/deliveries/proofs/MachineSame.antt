-- The straight list has the same acted on.
use Rattle.std.proofs.Common.{◌≡◌, ℕ, suc, zero, ◌+◌, ◌-◌, ◌<◌, ◌≤◌, Bool, true, false, cond, ◌&&◌, List, [], ◌∷◌, ◌++◌}
use Rattle.std.proofs.Common.{map, Option, Some, None, is_some, pos, ℤ}
use Rattle.std.proofs.Common.{refl, sym, ap, ap₂, ◌∙◌, append_assoc, subst, arith, inl, inr, nat_lt, nat_le}
use Rattle.std.specs.List.{flat_map, list_all}
use Rattle.std.specs.Str.{bytes_eq}
use Rattle.std.proofs.lemmas.Bool.Decides.{nat_tests}
use Rattle.std.proofs.lemmas.Bool.{cases_Bool, cases_eq, false≢true}
use Rattle.std.proofs.lemmas.List.{append-nil}
use Rattle.std.proofs.lemmas.Slice.Eq.{bytes_eq-Decides}
use Rattle.building.specs.Building.{Building}
use Rattle.points.specs.declared.content.Content.{Content}
use Rattle.points.specs.declared.panel.Panel.{Panel}
use Rattle.sched.specs.declared.calendar.CalendarEntry.{CalendarEntry}
use Rattle.points.specs.Texts.{Text}
use Rattle.window.specs.declared.numbered_content.NumberedContent.{NumberedContent}
use Rattle.points.specs.declared.numbered_row.TheConstants.{LAST_NUMBER}
use Rattle.window.specs.Applied.{applied}
use Rattle.window.specs.Taken as asks
use Rattle.window.proofs.FrontLemmas.{IsFront-front, front-take}
use Rattle.deliveries.specs.declared.delivery.Delivery.{Delivery}
use Rattle.deliveries.specs.declared.delivery.Delivery.TheVariants as delivery_of
use Rattle.deliveries.specs.Accepted.{asked, asks_of, ask_command, ask_skip, number_upto, panel_named, panel_of, taken_by}
use Rattle.deliveries.specs.Events.{acted_on, clock_event, events_after, events_of, has_calendar, is_later, is_moment}
use Rattle.deliveries.specs.Events.{last_tick_of, machine}
use Rattle.deliveries.specs.Laws.{HasDistinctSchedules}
use Rattle.deliveries.specs.Machine.{Event, Command, Import, Machine, Tick, opening_machine, run}
use Rattle.deliveries.proofs.ClockLemmas.{machine-last_tick}
use Rattle.deliveries.proofs.EventLemmas.{machine-push, run-append, taken_by-push}
use Rattle.deliveries.proofs.RangeLemmas.{front_greatest, front_least}
use Rattle.deliveries.proofs.StepLemmas.{Asks, Asks-sent, acted_on-sent, asks-none, asks-unknown, clock_event-sent}
use Rattle.deliveries.proofs.StepLemmas.{commands_of-same, taken-apart, taken-here}
use Rattle.deliveries.specs.Cut.{added_rows, cut, cut_event, import_of}
use Rattle.window.specs.StraightenedLaws.{WalksStraight}
use Rattle.window.specs.Straight.{IsStraight, applied_by}
use Rattle.deliveries.specs.StraightList.{sent, sent_by_clock, straightened_after, straightened_by}
use Rattle.window.specs.Straightened.{command_under, ends_gap, skip_upto, straightened, straightened_at, straightened_from}
use Rattle.deliveries.proofs.CutLemmas.{cut-append, cut-commands, have_calendars-added_rows, run-cut}
use Rattle.deliveries.proofs.QuietLemmas.{Quiet-machine}
use Rattle.window.proofs.WalkLemmas.{walk_stays_straight}

-- ---- lists of deliveries

pub events_after-append : (b : Building) (E xs ys : List Delivery)
    → events_after b E (xs ++ ys) ≡ events_after b E xs ++ events_after b (E ++ xs) ys
events_after-append b E [] ys = ap (λ before. events_after b before ys) (sym (append-nil E))
events_after-append b E (x ∷ xs) ys =
    ap (λ more. acted_on b E x ++ more) (events_after-append b (E ++ x ∷ []) xs ys)
    ∙ (sym (append_assoc (acted_on b E x) (events_after b (E ++ x ∷ []) xs) (events_after b ((E ++ x ∷ []) ++ xs) ys))
    ∙ ap (λ before. events_after b E (x ∷ xs) ++ events_after b before ys) (append_assoc E (x ∷ []) xs))

pub machine-append : (b : Building) (E xs : List Delivery) → machine b (E ++ xs) ≡ run b (machine b E) (events_after b E xs)
unfolding machine
machine-append b E xs =
    ap (run b opening_machine) (events_after-append b [] E xs) ∙ run-append b opening_machine (events_after b [] E) (events_after b E xs)

events_of-append : (p : Text) (xs ys : List NumberedContent) → events_of p (xs ++ ys) ≡ events_of p xs ++ events_of p ys
events_of-append p [] ys = refl
events_of-append p (x ∷ xs) ys = ap (λ more. Command p x.number x.content ∷ more) (events_of-append p xs ys)

-- ---- asks that are sent as deliveries

-- each comes as it was asked: its number is in range
abbrev pub AreSent : Text → List asks.Ask → Type 0
AreSent p [] = Unit {0}
AreSent p (ask ∷ more) = (asked (sent p ask) ≡ Some ask) × AreSent p more

AreSent-append : (p : Text) (xs ys : List asks.Ask) → AreSent p xs → AreSent p ys → AreSent p (xs ++ ys)
AreSent-append p [] ys first more = more
AreSent-append p (x ∷ xs) ys first more = (first.0, AreSent-append p xs ys first.1 more)

pub panel_of-sent : (p : Text) (ask : asks.Ask) → panel_of (sent p ask) ≡ p
panel_of-sent p (asks.Command number content) = refl
panel_of-sent p (asks.Skip upto) = refl

pub Asks-made : (b : Building) (p : Text) (panel : Panel) (ask : asks.Ask) → panel_named b p ≡ Some panel → asked (sent p ask) ≡ Some ask
    → Asks b (sent p ask) ask
Asks-made b p panel ask known asks_it = record {
  panel = panel;
  known = ap (panel_named b) (panel_of-sent p ask) ∙ known;
  asks_it = asks_it;
}

pub taken-sent : (b : Building) (T : List Delivery) (p : Text) (ask : asks.Ask) → Asks b (sent p ask) ask
    → taken_by b p (T ++ sent p ask ∷ []) ≡ asks.take (taken_by b p T) ask
taken-sent b T p ask asking =
    subst (λ q. taken_by b q (T ++ sent p ask ∷ []) ≡ asks.take (taken_by b q T) ask) (panel_of-sent p ask)
    (taken-here b T (sent p ask) ask asking)

acted_on-ask : (b : Building) (T : List Delivery) (p : Text) (ask : asks.Ask) → Asks b (sent p ask) ask
    → acted_on b T (sent p ask) ≡ events_of p (applied (taken_by b p T) (asks.take (taken_by b p T) ask))
acted_on-ask b T p ask asking =
    acted_on-sent b T (sent p ask) (Asks-sent b (sent p ask) ask asking)
    ∙ (ap (λ q. events_of q (applied (taken_by b q T) (taken_by b q (T ++ sent p ask ∷ [])))) (panel_of-sent p ask)
    ∙ ap (λ t. events_of p (applied (taken_by b p T) t)) (taken-sent b T p ask asking))

module _ (b : Building) (p : Text) (panel : Panel) (known : panel_named b p ≡ Some panel) where
  pub taken-all_sent : (T : List Delivery) (xs : List asks.Ask) → AreSent p xs
      → taken_by b p (T ++ map (sent p) xs) ≡ asks.taken (taken_by b p T) xs
  taken-all_sent T [] are = ap (taken_by b p) (append-nil T)
  taken-all_sent T (x ∷ xs) are =
      let asking = Asks-made b p panel x known are.0 in
      ap (taken_by b p) (sym (append_assoc T (sent p x ∷ []) (map (sent p) xs)))
      ∙ (taken-all_sent (T ++ sent p x ∷ []) xs are.1
      ∙ ap (λ t. asks.taken t xs) (taken-sent b T p x asking))

  pub taken-none_sent : (T : List Delivery) (xs : List asks.Ask) (q : Text) → bytes_eq p q ≡ false
      → taken_by b q (T ++ map (sent p) xs) ≡ taken_by b q T
  taken-none_sent T [] q apart = ap (taken_by b q) (append-nil T)
  taken-none_sent T (x ∷ xs) q apart =
      ap (taken_by b q) (sym (append_assoc T (sent p x ∷ []) (map (sent p) xs)))
      ∙ (taken-none_sent (T ++ sent p x ∷ []) xs q apart
      ∙ taken-apart b T (sent p x) q (ap (λ r. bytes_eq r q) (panel_of-sent p x) ∙ apart))

  pub events-all_sent : (T : List Delivery) (xs : List asks.Ask) → AreSent p xs
      → events_after b T (map (sent p) xs) ≡ events_of p (applied_by (taken_by b p T) xs)
  events-all_sent T [] are = refl
  events-all_sent T (x ∷ xs) are =
      let asking = Asks-made b p panel x known are.0 in
      let t = taken_by b p T in
      ap₂ (λ first more. first ++ more) (acted_on-ask b T p x asking)
      (events-all_sent (T ++ sent p x ∷ []) xs are.1 ∙ ap (λ u. events_of p (applied_by u xs)) (taken-sent b T p x asking))
      ∙ sym (events_of-append p (applied t (asks.take t x)) (applied_by (asks.take t x) xs))

-- ---- what comes is in range

number_upto-is : (last n : ℕ) → 1 ≤ n → n ≤ last → number_upto last (pos n) ≡ Some n
number_upto-is last n least most =
    let low : nat_le 1 n ≡ true = grind (arith, nat_tests) in
    let high : nat_le n last ≡ true = grind (arith, nat_tests) in
    rw (low, high) refl

pub command-sent : (p : Text) (n : ℕ) (content : Content) → 1 ≤ n → n ≤ LAST_NUMBER
    → asked (sent p (asks.Command n content)) ≡ Some (asks.Command n content)
command-sent p n content least most = ap (λ number. ask_command number content) (number_upto-is LAST_NUMBER n least most)

pub skip-sent : (p : Text) (n : ℕ) → 1 ≤ n → n ≤ LAST_NUMBER + 1 → asked (sent p (asks.Skip n)) ≡ Some (asks.Skip n)
skip-sent p n least most = ap ask_skip (number_upto-is (LAST_NUMBER + 1) n least most)

AreSent-skip : (p : Text) (first : ℕ) (now : asks.Taken) (n : ℕ) → 1 ≤ n → n ≤ LAST_NUMBER + 1 → AreSent p (skip_upto first now n)
AreSent-skip p first now n least most =
    elim (nat_lt first n && ends_gap now n) as (λ b. AreSent p (cond b (asks.Skip n ∷ []) [])) [
      | true ↦ (skip-sent p n least most, tt)
      | false ↦ tt
    ]

AreSent-command : (p : Text) (n : ℕ) (content : Option Content) → 1 ≤ n → (is_some content ≡ true → n ≤ LAST_NUMBER)
    → AreSent p (command_under n content)
AreSent-command p n None least most = tt
AreSent-command p n (Some content) least most = (command-sent p n content least (most refl), tt)

key-apart : (now : asks.Taken) (n : ℕ) → asks.is_key now n ≡ true → n ≤ asks.front now → n < asks.front now
key-apart now n key low = elim (cases_eq n (asks.front now)) [
  | inl same ↦
      absurd (false≢true (sym (IsFront-front now).missing ∙ (ap (asks.is_key now) (sym same) ∙ key)))
  | inr apart ↦ omega arith
]

AreSent-straightened_from : (p : Text) (c first : ℕ) (now : asks.Taken) (n : ℕ) → 1 ≤ n → n + c ≤ asks.front now + 1
    → asks.front now ≤ LAST_NUMBER + 1 → AreSent p (straightened_from c first now n)
AreSent-straightened_from p zero first now n least within most = tt
AreSent-straightened_from p (suc c) first now n least within most =
    AreSent-append p (straightened_at first now n) (straightened_from c first now (n + 1))
    (AreSent-append p (skip_upto first now n) (command_under n (asks.content_at now n))
    (AreSent-skip p first now n least (omega arith))
    (AreSent-command p n (asks.content_at now n) least (λ key. omega (arith, most, key-apart now n key (omega arith)))))
    (AreSent-straightened_from p c first now (n + 1) (omega arith) (omega arith) most)

pub AreSent-straightened : (b : Building) (p : Text) (E more : List Delivery)
    → asks.front (taken_by b p E) ≤ asks.front (taken_by b p more)
    → AreSent p (straightened (taken_by b p E) (taken_by b p more))
unfolding straightened
AreSent-straightened b p E more rises =
    let f = asks.front (taken_by b p E) in
    AreSent-straightened_from p (suc (asks.front (taken_by b p more) - f)) f (taken_by b p more) f (front_least b p E)
    (omega (arith, rises)) (front_greatest b p more)

-- nothing comes where nothing is accepted
straightened-same : (t : asks.Taken) → straightened t t ≡ []
unfolding straightened
straightened-same t = by (asks.front t - asks.front t) (omega arith) (asks.content_at t (asks.front t)) refl
  where
    by : (c : ℕ) → c ≡ 0 → (content : Option Content) → asks.content_at t (asks.front t) ≡ content
        → straightened_from (suc c) (asks.front t) t (asks.front t) ≡ []
    by c none (Some content) found = absurd (false≢true (sym (IsFront-front t).missing ∙ ap is_some found))
    by c none None found =
        let level : nat_lt (asks.front t) (asks.front t) ≡ false = grind (arith, nat_tests) in rw (none, found, level) refl

-- ---- one delivery more

-- the machine is the same, what is acted on is cut, and each panel is straight
pub record Follows (b : Building) (E T : List Delivery) : Type 0 where
  pub panels : (p : Text) → IsStraight (taken_by b p T) (taken_by b p E)
  pub machines : machine b T ≡ machine b E
  pub events : events_after b [] T ≡ cut b opening_machine (events_after b [] E)

cut-machine : (b : Building) (E : List Delivery) (es : List Event)
    → cut b (run b opening_machine (events_after b [] E)) es ≡ cut b (machine b E) es
unfolding machine
cut-machine b E es = refl

-- deliveries that do what one does, with its imports cut
pub record Does (b : Building) (E T : List Delivery) (d : Delivery) (X : List Delivery) : Type 0 where
  acts : events_after b T X ≡ cut b (machine b E) (acted_on b E d)
  panels : (p : Text) → IsStraight (taken_by b p (T ++ X)) (taken_by b p (E ++ d ∷ []))

pub Follows-push : (b : Building) (E T : List Delivery) (d : Delivery) (X : List Delivery) → HasDistinctSchedules b
    → Follows b E T → Does b E T d X → Follows b (E ++ d ∷ []) (T ++ X)
Follows-push b E T d X distinct straightens does = record {
  panels = does.panels;
  machines = machine-append b T X
      ∙ (ap (λ m. run b m (events_after b T X)) straightens.machines
      ∙ (ap (run b (machine b E)) does.acts
      ∙ (run-cut b (machine b E) (acted_on b E d) distinct (Quiet-machine b E distinct)
      ∙ sym (machine-push b E d))));
  events = events_after-append b [] T X
      ∙ (ap₂ (λ first more. first ++ more) straightens.events (does.acts ∙ sym (cut-machine b E (acted_on b E d)))
      ∙ (sym (cut-append b opening_machine (events_after b [] E) (acted_on b E d))
      ∙ ap (cut b opening_machine)
      (sym (events_after-append b [] E (d ∷ []) ∙ ap (λ more. events_after b [] E ++ more) (append-nil (acted_on b E d))))));
}

-- a delivery that asks nothing of any panel

pub taken-unasked : (b : Building) (E : List Delivery) (d : Delivery) → ((q : Text) → asks_of b q d ≡ []) → (q : Text)
    → taken_by b q (E ++ d ∷ []) ≡ taken_by b q E
taken-unasked b E d nothing q = taken_by-push b q E d ∙ ap (asks.taken (taken_by b q E)) (nothing q)

pub straightened-unasked : (b : Building) (E : List Delivery) (d : Delivery) → ((q : Text) → asks_of b q d ≡ [])
    → straightened_by b E d ≡ flat_map sent_by_clock (flat_map (cut_event b (machine b E)) (clock_event b E d))
straightened-unasked b E d nothing =
    let t = taken_by b (panel_of d) E in
    ap (λ u. map (sent (panel_of d)) (straightened t u)
    ++ flat_map sent_by_clock (flat_map (cut_event b (machine b E)) (clock_event b E d)))
    (taken-unasked b E d nothing (panel_of d))
    ∙ ap (λ xs. map (sent (panel_of d)) xs
    ++ flat_map sent_by_clock (flat_map (cut_event b (machine b E)) (clock_event b E d))) (straightened-same t)

acted_on-unasked : (b : Building) (E : List Delivery) (d : Delivery) → ((q : Text) → asks_of b q d ≡ [])
    → acted_on b E d ≡ clock_event b E d
acted_on-unasked b E d nothing =
    ap (λ commands. commands ++ clock_event b E d) (commands_of-same b E d (taken-unasked b E d nothing (panel_of d)))

-- ticks and imports leave the panels
pub nothing-tick : (b : Building) (moment : ℤ) (q : Text) → asks_of b q (delivery_of.Tick moment) ≡ []
nothing-tick b moment q = asks-none b q (delivery_of.Tick moment) refl

pub nothing-import : (b : Building) (rows : List CalendarEntry) (q : Text) → asks_of b q (delivery_of.Import rows) ≡ []
nothing-import b rows q = asks-none b q (delivery_of.Import rows) refl

taken-clock : (b : Building) (T : List Delivery) (es : List Event) (q : Text)
    → taken_by b q (T ++ flat_map sent_by_clock es) ≡ taken_by b q T
taken-clock b T [] q = ap (taken_by b q) (append-nil T)
taken-clock b T (Command panel number content ∷ es) q = taken-clock b T es q
taken-clock b T (Tick moment ∷ es) q =
    ap (taken_by b q) (sym (append_assoc T (delivery_of.Tick moment ∷ []) (flat_map sent_by_clock es)))
    ∙ (taken-clock b (T ++ delivery_of.Tick moment ∷ []) es q
    ∙ taken-unasked b T (delivery_of.Tick moment) (nothing-tick b moment) q)
taken-clock b T (Import rows ∷ es) q =
    ap (taken_by b q) (sym (append_assoc T (delivery_of.Import rows ∷ []) (flat_map sent_by_clock es)))
    ∙ (taken-clock b (T ++ delivery_of.Import rows ∷ []) es q
    ∙ taken-unasked b T (delivery_of.Import rows) (nothing-import b rows) q)

pub last_tick-same : (b : Building) (E T : List Delivery) → machine b T ≡ machine b E → last_tick_of b T ≡ last_tick_of b E
last_tick-same b E T same = sym (machine-last_tick b T) ∙ (ap (λ (m : Machine). m.last_tick) same ∙ machine-last_tick b E)

one_event : (b : Building) (T : List Delivery) (d : Delivery) (event : Event) → ((q : Text) → asks_of b q d ≡ [])
    → clock_event b T d ≡ event ∷ [] → events_after b T (d ∷ []) ≡ event ∷ []
one_event b T d event nothing happens = append-nil (acted_on b T d) ∙ (acted_on-unasked b T d nothing ∙ happens)

acts-tick : (b : Building) (E T : List Delivery) (moment : ℤ) (m : Machine) → last_tick_of b T ≡ last_tick_of b E
    → events_after b T (flat_map sent_by_clock (flat_map (cut_event b m) (clock_event b E (delivery_of.Tick moment))))
    ≡ cut b m (clock_event b E (delivery_of.Tick moment))
acts-tick b E T moment m same = by (is_moment b moment && is_later (last_tick_of b E) moment) refl
  where
    by : (happens : Bool) → (is_moment b moment && is_later (last_tick_of b E) moment) ≡ happens
        → events_after b T (flat_map sent_by_clock (flat_map (cut_event b m) (clock_event b E (delivery_of.Tick moment))))
        ≡ cut b m (clock_event b E (delivery_of.Tick moment))
    by false e = rw e refl
    by true e =
        rw e (one_event b T (delivery_of.Tick moment) (Tick moment) (nothing-tick b moment) (rw same (rw e refl)))

acts-import : (b : Building) (E T : List Delivery) (rows : List CalendarEntry) (m : Machine)
    → events_after b T (flat_map sent_by_clock (flat_map (cut_event b m) (clock_event b E (delivery_of.Import rows))))
    ≡ cut b m (clock_event b E (delivery_of.Import rows))
acts-import b E T rows m = by (list_all (has_calendar b) rows) refl
  where
    of : (again : List CalendarEntry) → list_all (has_calendar b) again ≡ true
        → events_after b T (flat_map sent_by_clock (import_of again ++ [])) ≡ import_of again ++ []
    of [] all = refl
    of (row ∷ more) all =
        one_event b T (delivery_of.Import (row ∷ more)) (Import (row ∷ more)) (nothing-import b (row ∷ more)) (rw all refl)

    by : (happens : Bool) → list_all (has_calendar b) rows ≡ happens
        → events_after b T (flat_map sent_by_clock (flat_map (cut_event b m) (clock_event b E (delivery_of.Import rows))))
        ≡ cut b m (clock_event b E (delivery_of.Import rows))
    by false e = rw e refl
    by true e = rw e (of (added_rows b m.imported rows) (have_calendars-added_rows b m.imported rows e))

acts-clock : (b : Building) (E T : List Delivery) (d : Delivery) (m : Machine) → last_tick_of b T ≡ last_tick_of b E
    → events_after b T (flat_map sent_by_clock (flat_map (cut_event b m) (clock_event b E d))) ≡ cut b m (clock_event b E d)
acts-clock b E T (delivery_of.Command panel number content) m same = refl
acts-clock b E T (delivery_of.Skip panel upto) m same = refl
acts-clock b E T (delivery_of.Tick moment) m same = acts-tick b E T moment m same
acts-clock b E T (delivery_of.Import rows) m same = acts-import b E T rows m

Does-unasked : (b : Building) (E T : List Delivery) (d : Delivery) → ((q : Text) → asks_of b q d ≡ []) → Follows b E T
    → Does b E T d (straightened_by b E d)
Does-unasked b E T d nothing straightens =
    let es = flat_map (cut_event b (machine b E)) (clock_event b E d) in
    subst (λ X. Does b E T d X) (sym (straightened-unasked b E d nothing)) (record {
      acts = acts-clock b E T d (machine b E) (last_tick-same b E T straightens.machines)
          ∙ ap (cut b (machine b E)) (sym (acted_on-unasked b E d nothing));
      panels = λ p. subst (λ t. IsStraight t (taken_by b p (E ++ d ∷ []))) (sym (taken-clock b T es p))
          (subst (λ t. IsStraight (taken_by b p T) t) (sym (taken-unasked b E d nothing p)) (straightens.panels p));
    })

pub straightened-asked : (b : Building) (E : List Delivery) (d : Delivery) (ask : asks.Ask) → Asks b d ask
    → straightened_by b E d ≡ map (sent (panel_of d)) (straightened (taken_by b (panel_of d) E) (taken_by b (panel_of d) (E ++ d ∷ [])))
straightened-asked b E d ask asking =
    let first = map (sent (panel_of d)) (straightened (taken_by b (panel_of d) E) (taken_by b (panel_of d) (E ++ d ∷ []))) in
    ap (λ es. first ++ flat_map sent_by_clock (flat_map (cut_event b (machine b E)) es))
    (clock_event-sent b E d (Asks-sent b d ask asking))
    ∙ append-nil first

Does-asked : (b : Building) (E T : List Delivery) (d : Delivery) (ask : asks.Ask) → Asks b d ask → Follows b E T
    → Does b E T d (straightened_by b E d)
Does-asked b E T d ask asking straightens =
    let p = panel_of d in
    let t = taken_by b p E in
    let now = taken_by b p (E ++ d ∷ []) in
    let grown = taken-here b E d ask asking in
    let walks = subst (λ u. WalksStraight (taken_by b p T) t u) (sym grown)
    (walk_stays_straight (taken_by b p T) t ask (straightens.panels p)) in
    let rises = subst (λ u. asks.front t ≤ asks.front u) (sym grown) (front-take t ask) in
    let are = AreSent-straightened b p E (E ++ d ∷ []) rises in
    subst (λ X. Does b E T d X) (sym (straightened-asked b E d ask asking)) (record {
      acts = events-all_sent b p asking.panel asking.known T (straightened t now) are
          ∙ (ap (events_of p) walks.applies
          ∙ (sym (cut-commands b (machine b E) p (applied t now))
          ∙ ap (cut b (machine b E)) (sym (acted_on-sent b E d (Asks-sent b d ask asking)))));
      panels = λ q. elim (cases_Bool (bytes_eq p q)) [
        | inl same ↦
            subst (λ r. IsStraight (taken_by b r (T ++ map (sent p) (straightened t now))) (taken_by b r (E ++ d ∷ [])))
            ((bytes_eq-Decides p q).0 same)
            (subst (λ u. IsStraight u now) (sym (taken-all_sent b p asking.panel asking.known T (straightened t now) are)) walks.stays)
        | inr apart ↦
            subst (λ u. IsStraight u (taken_by b q (E ++ d ∷ [])))
            (sym (taken-none_sent b p asking.panel asking.known T (straightened t now) q apart))
            (subst (λ u. IsStraight (taken_by b q T) u) (sym (taken-apart b E d q apart)) (straightens.panels q))
      ];
    })

pub Does-straightened : (b : Building) (E T : List Delivery) (d : Delivery) → Follows b E T → Does b E T d (straightened_by b E d)
Does-straightened b E T d straightens = by (panel_named b (panel_of d)) refl (asked d) refl
  where
    by : (found : Option Panel) → panel_named b (panel_of d) ≡ found → (ask : Option asks.Ask) → asked d ≡ ask
        → Does b E T d (straightened_by b E d)
    by None unknown ask e = Does-unasked b E T d (λ q. asks-unknown b q d unknown) straightens
    by (Some panel) known None e = Does-unasked b E T d (λ q. asks-none b q d e) straightens
    by (Some panel) known (Some ask) e = Does-asked b E T d ask (record { panel = panel; known = known; asks_it = e }) straightens

pub Follows-after : (b : Building) (E T ds : List Delivery) → HasDistinctSchedules b → Follows b E T
    → Follows b (E ++ ds) (T ++ straightened_after b E ds)
Follows-after b E T [] distinct straightens =
    subst (λ F. Follows b F (T ++ [])) (sym (append-nil E)) (subst (λ U. Follows b E U) (sym (append-nil T)) straightens)
Follows-after b E T (d ∷ ds) distinct straightens =
    let next = Follows-push b E T d (straightened_by b E d) distinct straightens (Does-straightened b E T d straightens) in
    let all = Follows-after b (E ++ d ∷ []) (T ++ straightened_by b E d) ds distinct next in
    subst (λ F. Follows b F (T ++ straightened_after b E (d ∷ ds))) (append_assoc E (d ∷ []) ds)
    (subst (λ U. Follows b ((E ++ d ∷ []) ++ ds) U) (append_assoc T (straightened_by b E d) (straightened_after b (E ++ d ∷ []) ds)) all)

pub Follows-none : (b : Building) → Follows b [] []
Follows-none b = record {
  panels = λ p. record { next = refl; below = λ number below. refl; from = λ number from. refl };
  machines = refl;
  events = refl;
}

-- the first part of the straight list follows the list
pub Follows-walk : (b : Building) (L : List Delivery) → HasDistinctSchedules b → Follows b L (straightened_after b [] L)
Follows-walk b L distinct = Follows-after b [] [] L distinct (Follows-none b)
