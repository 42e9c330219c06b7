-- The straight list leaves the same tables.
use Rattle.std.proofs.Common.{◌≡◌, ℕ, suc, zero, ◌+◌, ◌-◌, ◌≤◌, Bool, true, false, cond, ◌||◌, not, List, [], ◌∷◌, ◌++◌, map}
use Rattle.std.proofs.Common.{Option, Some, None, is_some, option_map, find}
use Rattle.std.proofs.Common.{refl, sym, ap, ap₂, ◌∙◌, append_assoc, subst, arith, inl, inr, ◌⊎◌, nat_lt}
use Rattle.std.specs.Cmp.Lexicographic.{nat_list_eq_equiv}
use Rattle.std.specs.List.{flat_map, list_any}
use Rattle.std.specs.Str.{bytes_eq}
use Rattle.std.proofs.lemmas.Bool.{cases_Bool, false≢true}
use Rattle.std.proofs.lemmas.List.{append-nil}
use Rattle.std.proofs.lemmas.Slice.Eq.{bytes_eq-Decides}
use Rattle.building.specs.Building.{Building}
use Rattle.building.specs.Roster.{are_distinct}
use Rattle.points.specs.declared.answer.Answer.{Answer}
use Rattle.points.specs.declared.content.Content.{Content}
use Rattle.points.specs.declared.panel.Panel.{Panel}
use Rattle.points.specs.NameIndex.{is_among}
use Rattle.points.specs.Texts.{Text}
use Rattle.points.specs.declared.numbered_row.TheConstants.{LAST_NUMBER}
use Rattle.window.specs.Applied.{contents_from}
use Rattle.window.specs.Taken as asks
use Rattle.window.specs.Window.{remembered, window}
use Rattle.window.proofs.FrontLemmas.{ends_in_window}
use Rattle.deliveries.specs.declared.delivery.Delivery.{Delivery}
use Rattle.deliveries.specs.Accepted.{asks_of, panel_named, panel_of, taken_by}
use Rattle.deliveries.specs.Events.{events_after, events_of, machine}
use Rattle.deliveries.specs.Laws.{HasDistinctSchedules}
use Rattle.deliveries.specs.Machine.{Machine, opening_machine, run}
use Rattle.deliveries.specs.Tables.{row_at, row_of}
use Rattle.deliveries.proofs.AgainLemmas.{both-parts, or-parts}
use Rattle.deliveries.proofs.MachineLemmas.{bytes_eq-same}
use Rattle.deliveries.proofs.RangeLemmas.{front_least}
use Rattle.deliveries.proofs.StepLemmas.{tables-at, tables-is}
use Rattle.deliveries.specs.Cut.{cut}
use Rattle.deliveries.specs.StraightLaws.{EachAfter, HasDistinctPanels, SameMachine, SameTables, UsesNoTolerance, StaysParked}
use Rattle.window.specs.Straight.{IsStraight}
use Rattle.deliveries.specs.StraightList.{parked_of, sent, straight_list, straightened_after}
use Rattle.window.specs.Parked.{command_of, parked_asks}
use Rattle.deliveries.proofs.InTurn.{EachAfter-append, InTurn-walk, StaysParked-all_sent}
use Rattle.deliveries.proofs.RangeLemmas.{key_greatest}
use Rattle.deliveries.proofs.MachineSame.{AreSent, Follows-walk, command-sent, events-all_sent, events_after-append}
use Rattle.deliveries.proofs.MachineSame.{machine-append, taken-all_sent, taken-none_sent}
use Rattle.deliveries.proofs.RiseLemmas.{numbers-rise}
use Rattle.window.proofs.ParkedLemmas.{Completes-straight, IsWhole}

-- what is parked is sent in range
AreSent-contents : (p : Text) (c : ℕ) (t : asks.Taken) (n : ℕ) → 1 ≤ n
    → ((number : ℕ) → asks.is_key t number ≡ true → number ≤ LAST_NUMBER) → AreSent p (map command_of (contents_from c t n))
AreSent-contents p zero t n least most = tt
AreSent-contents p (suc c) t n least most = by (asks.content_at t n) refl (AreSent-contents p c t (n + 1) (omega arith) most)
  where
    by : (content : Option Content) → asks.content_at t n ≡ content → AreSent p (map command_of (contents_from c t (n + 1)))
        → AreSent p (map command_of (contents_from (suc c) t n))
    by None found more = rw found more
    by (Some content) found more = rw found (command-sent p n content least (most n (ap is_some found)), more)

AreSent-parked_asks : (b : Building) (p : Text) (E : List Delivery) → AreSent p (parked_asks (taken_by b p E))
AreSent-parked_asks b p E =
    AreSent-contents p window (taken_by b p E) (asks.front (taken_by b p E)) (front_least b p E) (key_greatest b p E)

-- ---- panels

abbrev Each : (Panel → Type 0) → List Panel → Type 0
Each holds [] = Unit {0}
Each holds (panel ∷ panels) = holds panel × Each holds panels

abbrev IsNamed : List Panel → Panel → Type 0
IsNamed panels panel = is_some (find (λ x. bytes_eq x.name panel.name) panels) ≡ true

named-more : (x : Panel) (xs panels : List Panel) → Each (IsNamed xs) panels → Each (IsNamed (x ∷ xs)) panels
named-more x xs [] each = tt
named-more x xs (panel ∷ panels) each = (by (bytes_eq x.name panel.name) refl, named-more x xs panels each.1)
  where
    by : (here : Bool) → bytes_eq x.name panel.name ≡ here → IsNamed (x ∷ xs) panel
    by true e = rw e refl
    by false e = rw e each.0

named-each : (panels : List Panel) → Each (IsNamed panels) panels
named-each [] = tt
named-each (x ∷ xs) = (rw (bytes_eq-same x.name) refl, named-more x xs xs (named-each xs))

abbrev names_of : List Panel → List Text
names_of panels = map (λ (panel : Panel). panel.name) panels

not-true : (a : Bool) → not a ≡ true → a ≡ false
not-true true e = absurd (false≢true e)
not-true false e = refl

turned : (p q : Text) → bytes_eq p q ≡ false → bytes_eq q p ≡ false
turned p q apart = nat_list_eq_equiv.symm q p ∙ apart

-- ---- the last group

-- The parked commands act on nothing; each panel of the group is whole, the others stay.
record Ends (b : Building) (L T X : List Delivery) (panels : List Panel) : Type 0 where
  quiet : events_after b T X ≡ []
  whole : (q : Text) → is_among q (names_of panels) ≡ true → IsWhole (taken_by b q (T ++ X)) (taken_by b q L)
  others : (q : Text) → is_among q (names_of panels) ≡ false → taken_by b q (T ++ X) ≡ taken_by b q T
  stays_parked : EachAfter StaysParked b T X

some-of : {A : Type 0} (o : Option A) → is_some o ≡ true → (a : A) × (o ≡ Some a)
some-of None e = absurd (false≢true e)
some-of (Some a) e = (a, refl)

still-straight : (b : Building) (L T X : List Delivery) (p : Text) (panels : List Panel) → is_among p (names_of panels) ≡ false
    → ((q : Text) → bytes_eq p q ≡ false → taken_by b q (T ++ X) ≡ taken_by b q T)
    → Each (λ panel. IsStraight (taken_by b panel.name T) (taken_by b panel.name L)) panels
    → Each (λ panel. IsStraight (taken_by b panel.name (T ++ X)) (taken_by b panel.name L)) panels
still-straight b L T X p [] outside others each = tt
still-straight b L T X p (panel ∷ panels) outside others each =
    let apart = or-parts (bytes_eq panel.name p) (is_among p (names_of panels)) outside in (
      subst (λ t. IsStraight t (taken_by b panel.name L)) (sym (others panel.name (turned panel.name p apart.0))) each.0,
      still-straight b L T X p panels apart.1 others each.1,
    )

Ends-join : (b : Building) (L T X Y : List Delivery) (panel : Panel) (panels : List Panel) → is_among panel.name (names_of panels) ≡ false
    → events_after b T X ≡ []
    → IsWhole (taken_by b panel.name (T ++ X)) (taken_by b panel.name L)
    → ((q : Text) → bytes_eq panel.name q ≡ false → taken_by b q (T ++ X) ≡ taken_by b q T)
    → EachAfter StaysParked b T X
    → Ends b L (T ++ X) Y panels → Ends b L T (X ++ Y) (panel ∷ panels)
Ends-join b L T X Y panel panels outside quiet whole others stays_parked ends = record {
  stays_parked = EachAfter-append StaysParked b T X Y stays_parked ends.stays_parked;
  quiet = events_after-append b T X Y ∙ (ap (λ first. first ++ events_after b (T ++ X) Y) quiet ∙ ends.quiet);
  whole = λ q among. subst (λ U. IsWhole (taken_by b q U) (taken_by b q L)) (append_assoc T X Y)
      (here q among (cases_Bool (is_among q (names_of panels))));
  others = λ q not_among.
      let apart = or-parts (bytes_eq panel.name q) (is_among q (names_of panels)) not_among in
      ap (taken_by b q) (sym (append_assoc T X Y)) ∙ (ends.others q apart.1 ∙ others q apart.0);
}
  where
    here : (q : Text) → is_among q (names_of (panel ∷ panels)) ≡ true
        → (is_among q (names_of panels) ≡ true) ⊎ (is_among q (names_of panels) ≡ false)
        → IsWhole (taken_by b q ((T ++ X) ++ Y)) (taken_by b q L)
    here q among (inl later) = ends.whole q later
    here q among (inr not_later) =
        let now : bytes_eq panel.name q ≡ true = or-first (bytes_eq panel.name q) (is_among q (names_of panels)) among not_later in
        let same : panel.name ≡ q = (bytes_eq-Decides panel.name q).0 now in
        subst (λ t. IsWhole t (taken_by b q L)) (sym (ends.others q not_later))
        (subst (λ r. IsWhole (taken_by b r (T ++ X)) (taken_by b r L)) same whole)
      where
        or-first : (x y : Bool) → (x || y) ≡ true → y ≡ false → x ≡ true
        or-first true y e f = refl
        or-first false y e f = absurd (false≢true (sym f ∙ e))

Ends-panels : (b : Building) (L T : List Delivery) (panels : List Panel) → are_distinct (names_of panels) ≡ true
    → Each (λ panel. is_some (panel_named b panel.name) ≡ true) panels
    → Each (λ panel. IsStraight (taken_by b panel.name T) (taken_by b panel.name L)) panels
    → Ends b L T (flat_map (parked_of b L) panels) panels
Ends-panels b L T [] distinct named each = record {
  quiet = refl;
  whole = λ q among. absurd (false≢true among);
  others = λ q not_among. ap (taken_by b q) (append-nil T);
  stays_parked = tt;
}
Ends-panels b L T (panel ∷ panels) distinct named each =
    let p = panel.name in
    let found = some-of (panel_named b p) named.0 in
    let parts = both-parts (not (is_among p (names_of panels))) (are_distinct (names_of panels)) distinct in
    let outside = not-true (is_among p (names_of panels)) parts.0 in
    let t = taken_by b p L in
    let xs = parked_asks t in
    let are = AreSent-parked_asks b p L in
    let completes = Completes-straight (taken_by b p T) t each.0 (ends_in_window (flat_map (asks_of b p) L)) in
    let others = λ (q : Text) (apart : bytes_eq p q ≡ false). taken-none_sent b p found.0 found.1 T xs q apart in
    Ends-join b L T (map (sent p) xs) (flat_map (parked_of b L) panels) panel panels outside
    (events-all_sent b p found.0 found.1 T xs are ∙ ap (events_of p) completes.applies)
    (subst (λ u. IsWhole u t) (sym (taken-all_sent b p found.0 found.1 T xs are)) completes.whole)
    others
    (StaysParked-all_sent b p found.0 found.1 T xs are completes.ahead)
    (Ends-panels b L (T ++ map (sent p) xs) panels parts.1 named.1
    (still-straight b L T (map (sent p) xs) p panels outside others each.1))

-- ---- a name that no panel has

find-none : (q : Text) (panels : List Panel) → is_among q (names_of panels) ≡ false → find (λ x. bytes_eq x.name q) panels ≡ None
find-none q [] outside = refl
find-none q (x ∷ xs) outside =
    let apart = or-parts (bytes_eq x.name q) (is_among q (names_of xs)) outside in rw apart.0 (find-none q xs apart.1)

asks-unnamed : (b : Building) (q : Text) → panel_named b q ≡ None → (E : List Delivery) → flat_map (asks_of b q) E ≡ []
asks-unnamed b q none [] = refl
asks-unnamed b q none (d ∷ E) =
    ap₂ (λ first more. first ++ more) (by (bytes_eq (panel_of d) q) refl) (asks-unnamed b q none E)
  where
    by : (here : Bool) → bytes_eq (panel_of d) q ≡ here → asks_of b q d ≡ []
    by true e = rw (e, none) refl
    by false e = rw e refl

taken-unnamed : (b : Building) (q : Text) → panel_named b q ≡ None → (E : List Delivery) → taken_by b q E ≡ asks.opening
taken-unnamed b q none E = ap (asks.taken asks.opening) (asks-unnamed b q none E)

IsWhole-same : (s t : asks.Taken) → s ≡ t → IsWhole s t
IsWhole-same s t same = record { next = ap asks.front same; same = λ number. ap (λ u. asks.content_at u number) same }

-- ---- tables

row-whole : (s t : asks.Taken) → IsWhole s t → (number : ℕ) (answer : Answer) → row_at s number answer ≡ row_at t number answer
row-whole s t whole number answer = λ i. option_map (row_of (whole.next i) number answer)
    (cond (nat_lt number (whole.next i - remembered)) None (whole.same number i))

tables-whole : (m : Machine) (some other : Text → asks.Taken) → ((q : Text) → IsWhole (some q) (other q))
    → tables-at m some ≡ tables-at m other
unfolding tables-at
tables-whole m some other whole = λ i. record {
  places = m.places;
  next = λ panel. (whole panel).next i;
  row = λ panel number. row-whole (some panel) (other panel) (whole panel) number (m.answers panel number) i;
  shown = m.shown;
  imported = λ calendar text. list_any (bytes_eq text) (m.imported calendar);
  last_tick = m.last_tick;
}

module _ (b : Building) (L : List Delivery) (schedules : HasDistinctSchedules b) (panels : HasDistinctPanels b) where
  walk : List Delivery
  walk = straightened_after b [] L

  group : List Delivery
  group = flat_map (parked_of b L) b.panels

  straights : (ps : List Panel)
      → Each (λ panel. IsStraight (taken_by b panel.name (straightened_after b [] L)) (taken_by b panel.name L)) ps
  straights [] = tt
  straights (panel ∷ more) = ((Follows-walk b L schedules).panels panel.name, straights more)

  ends : Ends b L (straightened_after b [] L) (flat_map (parked_of b L) b.panels) b.panels
  ends = Ends-panels b L (straightened_after b [] L) b.panels panels (named-each b.panels) (straights b.panels)

  pub same-machine : SameMachine b L (straight_list b L)
  unfolding straight_list
  same-machine =
      events_after-append b [] (straightened_after b [] L) (flat_map (parked_of b L) b.panels)
      ∙ (ap₂ (λ first more. first ++ more) (Follows-walk b L schedules).events ends.quiet
      ∙ append-nil (cut b opening_machine (events_after b [] L)))

  wholes : (q : Text) → IsWhole (taken_by b q (straight_list b L)) (taken_by b q L)
  unfolding straight_list
  wholes q = elim (cases_Bool (is_among q (names_of b.panels))) [
    | inl among ↦ ends.whole q among
    | inr outside ↦
        let none = find-none q b.panels outside in
        IsWhole-same _ _ (taken-unnamed b q none (straight_list b L) ∙ sym (taken-unnamed b q none L))
  ]

  machines : machine b (straight_list b L) ≡ machine b L
  unfolding straight_list
  machines =
      machine-append b (straightened_after b [] L) (flat_map (parked_of b L) b.panels)
      ∙ (ap (run b (machine b (straightened_after b [] L))) ends.quiet ∙ (Follows-walk b L schedules).machines)

  pub same-tables : SameTables b L (straight_list b L)
  same-tables =
      tables-is b (straight_list b L)
      ∙ (ap (λ m. tables-at m (λ q. taken_by b q (straight_list b L))) machines
      ∙ (tables-whole (machine b L) (λ q. taken_by b q (straight_list b L)) (λ q. taken_by b q L) wholes
      ∙ sym (tables-is b L)))

  pub no-tolerance : UsesNoTolerance b (straight_list b L)
  unfolding straight_list
  no-tolerance = record {
    first = straightened_after b [] L;
    last_group = flat_map (parked_of b L) b.panels;
    parts = refl;
    in_turn = InTurn-walk b L schedules;
    stays_parked = ends.stays_parked;
    rise = numbers-rise b L panels;
  }
