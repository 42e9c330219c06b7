-- The numbers of each panel rise.
use Rattle.std.proofs.Common.{◌≡◌, ℕ, suc, zero, ◌+◌, ◌-◌, ◌<◌, ◌≤◌, Bool, true, false, cond, ◌&&◌, not, List, [], ◌∷◌, ◌++◌}
use Rattle.std.proofs.Common.{map, Option, Some, None, pos, ℤ}
use Rattle.std.proofs.Common.{refl, sym, ap, ap₂, ◌∙◌, append_assoc, subst, arith, inl, inr, ◌⊎◌, nat_lt}
use Rattle.std.specs.List.{flat_map}
use Rattle.std.specs.Str.{bytes_eq}
use Rattle.std.proofs.lemmas.Bool.Decides.{nat_tests}
use Rattle.std.proofs.lemmas.Bool.{cases_Bool, false≢true}
use Rattle.std.proofs.lemmas.Grind.{flat_map-append}
use Rattle.std.proofs.lemmas.List.{append-nil}
use Rattle.std.proofs.lemmas.Slice.Eq.{bytes_eq-Decides}
use Rattle.building.specs.Building.{Building}
use Rattle.building.specs.Roster.{are_distinct}
use Rattle.points.specs.declared.content.Content.{Content}
use Rattle.points.specs.declared.panel.Panel.{Panel}
use Rattle.points.specs.NameIndex.{is_among}
use Rattle.points.specs.Texts.{Text}
use Rattle.window.specs.Applied.{contents_from}
use Rattle.window.specs.Taken as asks
use Rattle.window.specs.Window.{window}
use Rattle.window.proofs.FrontLemmas.{IsFront-front, front-take}
use Rattle.deliveries.specs.declared.delivery.Delivery.{Delivery}
use Rattle.deliveries.specs.Accepted.{asks_of, panel_of, taken_by}
use Rattle.deliveries.specs.Events.{clock_event, machine}
use Rattle.deliveries.specs.Machine.{Command, Event, Import, Tick}
use Rattle.deliveries.proofs.AgainLemmas.{both-parts, or-parts}
use Rattle.deliveries.proofs.EventLemmas.{taken_by-push}
use Rattle.deliveries.proofs.MachineLemmas.{bytes_eq-same}
use Rattle.deliveries.proofs.RangeLemmas.{front_least}
use Rattle.deliveries.specs.Cut.{cut_event}
use Rattle.deliveries.specs.StraightLaws.{HasDistinctPanels, RiseAbove, numbers_by}
use Rattle.deliveries.specs.StraightList.{parked_of, sent, sent_by_clock, straight_list, straightened_after, straightened_by}
use Rattle.window.specs.Parked.{command_of, parked_asks}
use Rattle.window.specs.Straightened.{command_under, ends_gap, skip_upto, straightened, straightened_at, straightened_from}
use Rattle.window.proofs.WalkLemmas.{none_of}

-- numbers that rise from one bound to another
abbrev Between : ℕ → ℕ → List ℤ → Type 0
Between low high [] = low ≤ high
Between low high (z ∷ zs) = (n : ℕ) × ((z ≡ pos n) × ((low ≤ n) × Between (n + 1) high zs))

Between-lower : (low least high : ℕ) (zs : List ℤ) → least ≤ low → Between low high zs → Between least high zs
Between-lower low least high [] below rise = omega (arith, below, rise)
Between-lower low least high (z ∷ zs) below rise = (rise.0, (rise.1.0, (omega (arith, below, rise.1.1.0), rise.1.1.1)))

Between-append : (low middle high : ℕ) (xs ys : List ℤ) → Between low middle xs → Between middle high ys → Between low high (xs ++ ys)
Between-append low middle high [] ys first more = Between-lower middle low high ys first more
Between-append low middle high (x ∷ xs) ys first more =
    (first.0, (first.1.0, (first.1.1.0, Between-append (first.0 + 1) middle high xs ys first.1.1.1 more)))

RiseAbove-between : (k low high : ℕ) (zs : List ℤ) → k < low → Between low high zs → RiseAbove (pos k) zs
RiseAbove-between k low high [] below rise = tt
RiseAbove-between k low high (z ∷ zs) below rise =
    let n = rise.0 in
    let least = rise.1.1.0 in
    let above : nat_lt k n ≡ true = grind (arith, nat_tests) in
    subst (λ y. RiseAbove (pos k) (y ∷ zs)) (sym rise.1.0)
    (above, RiseAbove-between n (n + 1) high zs (omega arith) rise.1.1.1)

numbers : Text → List Delivery → List ℤ
numbers q ds = flat_map (numbers_by q) ds

-- ---- what comes at numbers in a row

numbers-skip : (p : Text) (first : ℕ) (now : asks.Taken) (n : ℕ) → flat_map (numbers_by p) (map (sent p) (skip_upto first now n)) ≡ []
numbers-skip p first now n =
    elim (nat_lt first n && ends_gap now n) as (λ b. flat_map (numbers_by p) (map (sent p) (cond b (asks.Skip n ∷ []) [])) ≡ [])
    [ true ↦ refl | false ↦ refl ]

map-append : {A B : Type 0} (f : A → B) (xs ys : List A) → map f (xs ++ ys) ≡ map f xs ++ map f ys
map-append f [] ys = refl
map-append f (x ∷ xs) ys = ap (λ more. f x ∷ more) (map-append f xs ys)

numbers-append : (p : Text) (xs ys : List asks.Ask) → flat_map (numbers_by p) (map (sent p) (xs ++ ys))
    ≡ flat_map (numbers_by p) (map (sent p) xs) ++ flat_map (numbers_by p) (map (sent p) ys)
numbers-append p xs ys =
    ap (flat_map (numbers_by p)) (map-append (sent p) xs ys) ∙ flat_map-append (numbers_by p) (map (sent p) xs) (map (sent p) ys)

Between-command : (p : Text) (n : ℕ) (content : Option Content)
    → Between n (n + 1) (flat_map (numbers_by p) (map (sent p) (command_under n content)))
Between-command p n None = omega arith
Between-command p n (Some content) = rw (bytes_eq-same p) (n, (refl, (omega arith, omega arith)))

Between-straightened_at : (p : Text) (first : ℕ) (now : asks.Taken) (n : ℕ)
    → Between n (n + 1) (flat_map (numbers_by p) (map (sent p) (straightened_at first now n)))
Between-straightened_at p first now n =
    subst (λ zs. Between n (n + 1) zs)
    (sym (numbers-append p (skip_upto first now n) (command_under n (asks.content_at now n))
    ∙ ap (λ zs. zs ++ flat_map (numbers_by p) (map (sent p) (command_under n (asks.content_at now n)))) (numbers-skip p first now n)))
    (Between-command p n (asks.content_at now n))

Between-straightened_from : (p : Text) (c first : ℕ) (now : asks.Taken) (n : ℕ) → n + c ≡ asks.front now
    → Between n (asks.front now) (flat_map (numbers_by p) (map (sent p) (straightened_from (suc c) first now n)))
Between-straightened_from p zero first now n ends =
    let at : n ≡ asks.front now = omega arith in
    let none = subst (λ m. asks.content_at now m ≡ None) (sym at)
    (none_of (asks.content_at now (asks.front now)) (IsFront-front now).missing) in
    subst (λ zs. Between n (asks.front now) zs)
    (sym (ap (λ xs. flat_map (numbers_by p) (map (sent p) xs)) (append-nil (straightened_at first now n)
    ∙ (ap (λ content. skip_upto first now n ++ command_under n content) none ∙ append-nil (skip_upto first now n)))
    ∙ numbers-skip p first now n))
    (omega arith)
Between-straightened_from p (suc c) first now n ends =
    subst (λ zs. Between n (asks.front now) zs)
    (sym (numbers-append p (straightened_at first now n) (straightened_from (suc c) first now (n + 1))))
    (Between-append n (n + 1) (asks.front now) _ _ (Between-straightened_at p first now n)
    (Between-straightened_from p c first now (n + 1) (omega arith)))

Between-straightened : (p : Text) (before now : asks.Taken) → asks.front before ≤ asks.front now
    → Between (asks.front before) (asks.front now) (flat_map (numbers_by p) (map (sent p) (straightened before now)))
unfolding straightened
Between-straightened p before now rises =
    Between-straightened_from p (asks.front now - asks.front before) (asks.front before) now (asks.front before) (omega (arith, rises))

-- other panels' numbers
numbers-apart : (p q : Text) (xs : List asks.Ask) → bytes_eq p q ≡ false → flat_map (numbers_by q) (map (sent p) xs) ≡ []
numbers-apart p q [] apart = refl
numbers-apart p q (asks.Command n content ∷ xs) apart = rw apart (numbers-apart p q xs apart)
numbers-apart p q (asks.Skip upto ∷ xs) apart = numbers-apart p q xs apart

numbers-clock : (q : Text) (es : List Event) → flat_map (numbers_by q) (flat_map sent_by_clock es) ≡ []
numbers-clock q [] = refl
numbers-clock q (Command panel number content ∷ es) = numbers-clock q es
numbers-clock q (Tick moment ∷ es) = numbers-clock q es
numbers-clock q (Import rows ∷ es) = numbers-clock q es

-- ---- deliveries

front-taken : (t : asks.Taken) (xs : List asks.Ask) → asks.front t ≤ asks.front (asks.taken t xs)
front-taken t [] = omega arith
front-taken t (x ∷ xs) = omega (arith, front-take t x, front-taken (asks.take t x) xs)

pub front-push : (b : Building) (q : Text) (E : List Delivery) (d : Delivery)
    → asks.front (taken_by b q E) ≤ asks.front (taken_by b q (E ++ d ∷ []))
front-push b q E d =
    subst (λ t. asks.front (taken_by b q E) ≤ asks.front t) (sym (taken_by-push b q E d)) (front-taken (taken_by b q E) (asks_of b q d))

Between-straightened_by : (b : Building) (q : Text) (E : List Delivery) (d : Delivery)
    → Between (asks.front (taken_by b q E)) (asks.front (taken_by b q (E ++ d ∷ []))) (flat_map (numbers_by q) (straightened_by b E d))
Between-straightened_by b q E d =
    let p = panel_of d in
    let first = map (sent p) (straightened (taken_by b p E) (taken_by b p (E ++ d ∷ []))) in
    let es = flat_map (cut_event b (machine b E)) (clock_event b E d) in
    subst (λ zs. Between (asks.front (taken_by b q E)) (asks.front (taken_by b q (E ++ d ∷ []))) zs)
    (sym (flat_map-append (numbers_by q) first (flat_map sent_by_clock es)
    ∙ (ap (λ zs. flat_map (numbers_by q) first ++ zs) (numbers-clock q es) ∙ append-nil (flat_map (numbers_by q) first))))
    (by (cases_Bool (bytes_eq p q)))
  where
    by : (bytes_eq (panel_of d) q ≡ true) ⊎ (bytes_eq (panel_of d) q ≡ false)
        → Between (asks.front (taken_by b q E)) (asks.front (taken_by b q (E ++ d ∷ [])))
        (flat_map (numbers_by q)
        (map (sent (panel_of d)) (straightened (taken_by b (panel_of d) E) (taken_by b (panel_of d) (E ++ d ∷ [])))))
    by (inl same) =
        subst (λ r. Between (asks.front (taken_by b r E)) (asks.front (taken_by b r (E ++ d ∷ [])))
        (flat_map (numbers_by r)
        (map (sent (panel_of d)) (straightened (taken_by b (panel_of d) E) (taken_by b (panel_of d) (E ++ d ∷ []))))))
        ((bytes_eq-Decides (panel_of d) q).0 same)
        (Between-straightened (panel_of d) (taken_by b (panel_of d) E) (taken_by b (panel_of d) (E
        ++ d ∷ [])) (front-push b (panel_of d) E d))
    by (inr apart) =
        subst (λ zs. Between (asks.front (taken_by b q E)) (asks.front (taken_by b q (E ++ d ∷ []))) zs)
        (sym (numbers-apart (panel_of d) q (straightened (taken_by b (panel_of d) E) (taken_by b (panel_of d) (E ++ d ∷ []))) apart))
        (front-push b q E d)

Between-straightened_after : (b : Building) (q : Text) (E ds : List Delivery)
    → Between (asks.front (taken_by b q E)) (asks.front (taken_by b q (E ++ ds))) (flat_map (numbers_by q) (straightened_after b E ds))
Between-straightened_after b q E [] = subst (λ F. asks.front (taken_by b q E) ≤ asks.front (taken_by b q F)) (sym (append-nil E))
    (omega arith)
Between-straightened_after b q E (d ∷ ds) =
    let low = asks.front (taken_by b q E) in
    subst (λ F. Between low (asks.front (taken_by b q F)) (flat_map (numbers_by q) (straightened_after b E (d ∷ ds))))
    (append_assoc E (d ∷ []) ds)
    (subst (λ zs. Between low (asks.front (taken_by b q ((E ++ d ∷ []) ++ ds))) zs)
    (sym (flat_map-append (numbers_by q) (straightened_by b E d) (straightened_after b (E ++ d ∷ []) ds)))
    (Between-append low (asks.front (taken_by b q (E ++ d ∷ []))) (asks.front (taken_by b q ((E ++ d ∷ []) ++ ds))) _ _
    (Between-straightened_by b q E d) (Between-straightened_after b q (E ++ d ∷ []) ds)))

-- ---- the last group

Between-contents : (p : Text) (c : ℕ) (t : asks.Taken) (n : ℕ)
    → Between n (n + c) (flat_map (numbers_by p) (map (sent p) (map command_of (contents_from c t n))))
Between-contents p zero t n = omega arith
Between-contents p (suc c) t n = by (asks.content_at t n) refl (Between-contents p c t (n + 1))
  where
    by : (content : Option Content) → asks.content_at t n ≡ content
        → Between (n + 1) ((n + 1) + c) (flat_map (numbers_by p) (map (sent p) (map command_of (contents_from c t (n + 1)))))
        → Between n (n + suc c) (flat_map (numbers_by p) (map (sent p) (map command_of (contents_from (suc c) t n))))
    by None found more =
        let moved : (n + 1) + c ≡ n + suc c = omega arith in
        rw found (Between-lower (n + 1) n (n + suc c) _ (omega arith)
        (subst (λ m. Between (n + 1) m (flat_map (numbers_by p) (map (sent p) (map command_of (contents_from c t (n + 1)))))) moved more))
    by (Some content) found more =
        let moved : (n + 1) + c ≡ n + suc c = omega arith in
        rw (found, bytes_eq-same p) (
          n,
          (
            refl,
            (
              omega arith,
              subst (λ m. Between (n + 1) m
                  (flat_map (numbers_by p) (map (sent p) (map command_of (contents_from c t (n + 1)))))) moved more,
            ),
          ),
        )

abbrev names_of : List Panel → List Text
names_of panels = map (λ (panel : Panel). panel.name) panels

numbers-group_none : (b : Building) (L : List Delivery) (q : Text) (panels : List Panel) → is_among q (names_of panels) ≡ false
    → flat_map (numbers_by q) (flat_map (parked_of b L) panels) ≡ []
numbers-group_none b L q [] outside = refl
numbers-group_none b L q (panel ∷ panels) outside =
    let apart = or-parts (bytes_eq panel.name q) (is_among q (names_of panels)) outside in
    flat_map-append (numbers_by q) (parked_of b L panel) (flat_map (parked_of b L) panels)
    ∙ ap₂ (λ x y. x ++ y) (numbers-apart panel.name q (parked_asks (taken_by b panel.name L)) apart.0)
    (numbers-group_none b L q panels apart.1)

not-true : (a : Bool) → not a ≡ true → a ≡ false
not-true true e = absurd (false≢true e)
not-true false e = refl

Between-group : (b : Building) (L : List Delivery) (q : Text) (panels : List Panel) → are_distinct (names_of panels) ≡ true
    → let f = asks.front (taken_by b q L) in Between f (f + window) (flat_map (numbers_by q) (flat_map (parked_of b L) panels))
Between-group b L q [] distinct = omega arith
Between-group b L q (panel ∷ panels) distinct =
    let f = asks.front (taken_by b q L) in
    let parts = both-parts (not (is_among panel.name (names_of panels))) (are_distinct (names_of panels)) distinct in
    let outside = not-true (is_among panel.name (names_of panels)) parts.0 in
    subst (λ zs. Between f (f + window) zs) (sym (flat_map-append (numbers_by q) (parked_of b L panel) (flat_map (parked_of b L) panels)))
    (by outside (Between-group b L q panels parts.1) (cases_Bool (bytes_eq panel.name q)))
  where
    by : is_among panel.name (names_of panels) ≡ false
        → Between (asks.front (taken_by b q L)) (asks.front (taken_by b q L) + window)
        (flat_map (numbers_by q) (flat_map (parked_of b L) panels))
        → (bytes_eq panel.name q ≡ true) ⊎ (bytes_eq panel.name q ≡ false)
        → Between (asks.front (taken_by b q L)) (asks.front (taken_by b q L) + window)
        (flat_map (numbers_by q) (parked_of b L panel) ++ flat_map (numbers_by q) (flat_map (parked_of b L) panels))
    by outside rest (inl same) =
        let p = panel.name in
        subst (λ r. Between (asks.front (taken_by b r L)) (asks.front (taken_by b r L) + window)
        (flat_map (numbers_by r) (parked_of b L panel) ++ flat_map (numbers_by r) (flat_map (parked_of b L) panels)))
        ((bytes_eq-Decides p q).0 same)
        (subst (λ zs. Between (asks.front (taken_by b p L)) (asks.front (taken_by b p L) + window)
        (flat_map (numbers_by p) (parked_of b L panel) ++ zs))
        (sym (numbers-group_none b L p panels outside))
        (subst (λ zs. Between (asks.front (taken_by b p L)) (asks.front (taken_by b p L) + window) zs)
        (sym (append-nil (flat_map (numbers_by p) (parked_of b L panel))))
        (Between-contents p window (taken_by b p L) (asks.front (taken_by b p L)))))
    by outside rest (inr apart) =
        subst (λ zs. Between (asks.front (taken_by b q L)) (asks.front (taken_by b q L) + window) (zs
        ++ flat_map (numbers_by q) (flat_map (parked_of b L) panels)))
        (sym (numbers-apart panel.name q (parked_asks (taken_by b panel.name L)) apart)) rest

pub numbers-rise : (b : Building) (L : List Delivery) → HasDistinctPanels b → (q : Text)
    → RiseAbove (pos 0) (flat_map (numbers_by q) (straight_list b L))
unfolding straight_list
numbers-rise b L distinct q =
    let f = asks.front (taken_by b q L) in
    let first = front_least b q [] in
    RiseAbove-between 0 (asks.front (taken_by b q [])) (f + window) (flat_map (numbers_by q) (straightened_after b [] L
    ++ flat_map (parked_of b L) b.panels)) (omega (arith, first))
    (subst (λ zs. Between (asks.front (taken_by b q [])) (f + window) zs)
    (sym (flat_map-append (numbers_by q) (straightened_after b [] L) (flat_map (parked_of b L) b.panels)))
    (Between-append (asks.front (taken_by b q [])) f (f + window) _ _ (Between-straightened_after b q [] L)
    (Between-group b L q b.panels distinct)))
