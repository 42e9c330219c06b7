-- A priority array that is made of the rows of a point, one after the other.
use Rattle.std.proofs.Common.{◌≡◌, ◌<◌, ◌≤◌, ◌+◌, ◌==◌, ◌++◌, ◌&&◌, ◌||◌, inl, inr, ℕ, ℤ, pos, negsuc, Bool, true, false, not, is_some, nat_le, nat_lt, cond, List, [], ◌∷◌, filter, map, take, drop, get_or, length, take-append-drop, filter_map, suc, ◌⊎◌, Option, Some, None, refl, sym, ap, ◌∙◌, subst, arith, IsTrue, true≢false}
use Rattle.std.specs.FinMap.{empty, get, get-empty, nat_cmp-IsAntisymmetric, same_map}
use Rattle.std.specs.Cmp.{nat_cmp_total}
use Rattle.std.specs.List.Sorted.{IsPermutation}
use Rattle.std.specs.Ordering.{nat_cmp}
use Rattle.std.proofs.lemmas.Bool.{and_from, and_parts, cases_Bool, eq-eqb, eqb-true, ltb-false, ltb-true}
use Rattle.std.proofs.lemmas.List.{take_more}
use Rattle.std.proofs.lemmas.List.Elements.{filter-append}
use Rattle.std.proofs.lemmas.List.Sorted.{IsPermutation-map}
use Rattle.points.specs.Name.{IsName}
use Rattle.points.specs.PriorityArray.{Places}
use Rattle.sqlite_rules.specs.Lists.{Has}
use Rattle.sqlite_rules.proofs.ListLemmas.{has_at, has_filtered}
use Rattle.sqlite_trees.proofs.ListLemmas.{IsPermutation-filter, filter-map, map-map}
use Rattle.sqlite_value.specs.declared.value.Value.{Value}
use Rattle.sqlite_value.specs.declared.value.Value.TheVariants.{Blob, Int, Null, Real, Text}
use Rattle.sqlite_value.specs.Order.{Row, column}
use Rattle.store_sql_rows.specs.Looking.{Finds}
use Rattle.std.specs.List.{cons_option, list_all, list_any}
use Rattle.std.specs.Str.{bytes_eq}
use Rattle.store.specs.Asked.Asked.{ArrayOf}
use Rattle.store.specs.declared.change.PlaceValue.{PlaceValue}
use Rattle.store_sql.specs.Leaving.{AreSeveral}
use Rattle.store_sql.specs.Placing.{AreReported, IsPlaced, cannot_place, is_taken_in, rows_at}
use Rattle.store_sql.proofs.FoundLemmas.{found_none, found_one, found_origin, found_shown, found_two}
use Rattle.store_sql.proofs.ReadCells.{name_here}
use Rattle.store_sql.proofs.ParsedLemmas.{count_given, place_none, place_one}
use Rattle.store_sql_rows.specs.Broken.{cannot_stand_in}
use Rattle.store_sql_rows.specs.Cells.{count_in, is_count, is_text, number_in}
use Rattle.store_sql_rows.specs.Rows.{of_place, place_said, same_place}
use Rattle.store_sql_rows.specs.Stored.{Kept, are_apart, tables_in}
use Rattle.store_sql_rows.proofs.BrokenLemmas.{broken_here, list_all_from}
use Rattle.store_sql_rows.proofs.ReadCellLemmas.{place-agrees, text-same}
use Rattle.store_sql_rows.proofs.StoredLemmas.{alike-number, alike-text, outside_places}
use Rattle.store_sql_rows.proofs.StoredRowLemmas.{said-filter, two-rows}
use Rattle.store_sql_rows.proofs.TableLemmas.{get-put_at}

-- ---- lists

has_pushed : (rows : List Row) (last row : Row) → Has (rows ++ last ∷ []) row → Has rows row ⊎ (row ≡ last)
has_pushed [] last row (inl same) = inr same
has_pushed [] last row (inr none) = absurd none
has_pushed (r ∷ rows) last row (inl same) = inl (inl same)
has_pushed (r ∷ rows) last row (inr here) = elim (has_pushed rows last row here) [ inl old ↦ inl (inr old) | inr same ↦ inr same ]

-- of rows of which each that passes a test passes another, no more pass it
fewer : (test here other : Row → Bool) → ((row : Row) → here row ≡ true → test row ≡ true → other row ≡ true) → (rows : List Row)
    → length (filter test (filter here rows)) ≤ length (filter other rows)
fewer test here other passes [] = omega arith
fewer test here other passes (row ∷ rows) =
    let rest = fewer test here other passes rows in
    elim (cases_Bool (here row)) [
      | inl is ↦ elim (cases_Bool (test row)) [
        | inl both ↦ rw (is, both, passes row is both) (omega (arith, rest))
        | inr off ↦ rw (is, off) (at_least rest)
      ]
      | inr off ↦ rw off (at_least rest)
    ]
  where
    at_least : length (filter test (filter here rows)) ≤ length (filter other rows)
        → length (filter test (filter here rows)) ≤ length (cond (other row) (row ∷ filter other rows) (filter other rows))
    at_least rest = elim (cases_Bool (other row)) [ inl is ↦ rw is (omega (arith, rest)) | inr off ↦ rw off rest ]

module _ {Item : Type 0} (same : Item → Item → Bool) where
  more_at : (x y : Item) (items : List Item) → length (filter (same y) items) ≤ length (filter (same y) (x ∷ items))
  more_at x y items = elim (cases_Bool (same y x)) [ inl is ↦ rw is (omega arith) | inr off ↦ rw off (omega arith) ]

  like_here : (x y : Item) (items : List Item) (b : Bool) → same x y ≡ b → length (filter (same x) (y ∷ items)) ≡ 0
      → (length (filter (same x) items) ≡ 0 → list_any (same x) items ≡ false) → (b || list_any (same x) items) ≡ false
  like_here x y items true is none rest =
      absurd (let some : length (filter (same x) (y ∷ items)) ≡ suc (length (filter (same x) items)) = rw is refl in
      omega (arith, some, none))
  like_here x y items false is none rest =
      rest (let all : length (filter (same x) (y ∷ items)) ≡ length (filter (same x) items) = rw is refl in sym all ∙ none)

  none_like : (x : Item) (items : List Item) → length (filter (same x) items) ≡ 0 → list_any (same x) items ≡ false
  none_like x [] none = refl
  none_like x (y ∷ items) none = like_here x y items (same x y) refl none (none_like x items)

  -- items of which none is like another are apart
  pub apart_from : ((x : Item) → same x x ≡ true) → (items : List Item) → ((x : Item) → length (filter (same x) items) ≤ 1)
      → are_apart same items ≡ true
  apart_from itself [] one = refl
  apart_from itself (x ∷ items) one =
      let here : length (filter (same x) (x ∷ items)) ≡ suc (length (filter (same x) items)) = rw (itself x) refl in
      let most = one x in
      let none : length (filter (same x) items) ≡ 0 = omega (arith, here, most) in
      and_from (not (list_any (same x) items)) (are_apart same items) (ap not (none_like x items none))
      (apart_from itself items (λ y. let more = more_at x y items in let most = one y in omega (arith, more, most)))

one_said : {Item : Type 0} (o : Option Item) (items : List Item) (rows : List Row) → length items ≤ length rows
    → length (cons_option o items) ≤ suc (length rows)
one_said None items rows rest = omega (arith, rest)
one_said (Some item) items rows rest = omega (arith, rest)

no_more_said : {Item : Type 0} (said : Row → Option Item) (rows : List Row) → length (filter_map said rows) ≤ length rows
no_more_said said [] = omega arith
no_more_said said (row ∷ rows) = one_said (said row) (filter_map said rows) rows (no_more_said said rows)

-- ---- one row more

nothing : (q : ℕ) → get (empty {K = ℕ} {X = ℤ} {R = nat_cmp}) q ≡ None
nothing q = get-empty nat_cmp q

none≢some : {X : Type 0} (x : X) → None ≡ Some x → ⊥
none≢some x same = true≢false (ap is_some (sym same))

pub reported_none : (array : Places) → array ≡ empty → AreReported [] array
reported_none array is = rw is (record {
  none = λ q none. refl;
  some = λ q x has. absurd (none≢some x (sym (nothing q) ∙ has));
  within = λ q x has. absurd (none≢some x (sym (nothing q) ∙ has));
  each = λ row here. absurd here;
})

kept_count : (b : Bool) (n priority : ℕ) → cond b (Some n) None ≡ Some priority → n ≡ priority
kept_count true n priority is = let whole : Some n ≡ Some priority = is in cc
kept_count false n priority is = absurd (none≢some priority is)

-- the cell has the number that is read of it, and no other
count_read : (priority : ℕ) (cell : Value) → count_in 1 16 cell ≡ Some priority → (q : ℕ) → is_count q cell ≡ (q == priority)
count_read priority (Int (pos n)) is q = ap (λ m. q == m) (kept_count (nat_le 1 n && nat_le n 16) n priority is)
count_read priority (Int (negsuc n)) is q = absurd (none≢some priority is)
count_read priority (Text t) is q = absurd (none≢some priority is)
count_read priority Null is q = absurd (none≢some priority is)
count_read priority (Real x) is q = absurd (none≢some priority is)
count_read priority (Blob b) is q = absurd (none≢some priority is)

-- the rows of a priority, with one row more
one_more : (rows : List Row) (i : ℕ) (row : Row) → i < length rows → row ≡ get_or rows i row → (q : ℕ)
    → rows_at q (take (i + 1) rows) ≡ rows_at q (take i rows) ++ cond (is_count q (column row 0)) (row ∷ []) []
one_more rows i row below is q =
    ap (rows_at q) (take_more rows i row below ∙ ap (λ r. take i rows ++ r ∷ []) (sym is))
    ∙ filter-append (λ r. is_count q (column r 0)) (take i rows) (row ∷ [])

module _ (rows : List Row) (i : ℕ) (row : Row) (old new : Places) (below : i < length rows) (here : row ≡ get_or rows i row)
    (reported : AreReported (take i rows) old) (placed : IsPlaced row old new) where
  value_now : (q : ℕ) (b : Bool) → (q == placed.priority) ≡ b → get new q ≡ cond b (Some placed.value) (get old q)
  value_now q b is =
      ap (λ m. get m q) placed.is ∙ get-put_at old placed.priority (Some placed.value) q
      ∙ ap (λ t. cond t (Some placed.value) (get old q)) is

  rows_now : (q : ℕ) (b : Bool) → (q == placed.priority) ≡ b
      → rows_at q (take (i + 1) rows) ≡ rows_at q (take i rows) ++ cond b (row ∷ []) []
  rows_now q b is =
      one_more rows i row below here q
      ∙ ap (λ t. rows_at q (take i rows) ++ cond t (row ∷ []) []) (count_read placed.priority (column row 0) placed.at q ∙ is)

  none_before : (q : ℕ) → (q == placed.priority) ≡ true → rows_at q (take i rows) ≡ []
  none_before q is = reported.none q (ap (get old) (eqb-true q placed.priority is) ∙ placed.was)

  none_now : (q : ℕ) → get new q ≡ None → rows_at q (take (i + 1) rows) ≡ []
  none_now q none = elim (cases_Bool (q == placed.priority)) [
    | inl holds ↦ absurd (none≢some placed.value (sym none ∙ value_now q true holds))
    | inr fails ↦ rows_now q false fails ∙ ap (λ l. l ++ []) (reported.none q (sym (value_now q false fails) ∙ none))
  ]

  some_now : (q : ℕ) (x : ℤ) → get new q ≡ Some x → (r : Row) × (rows_at q (take (i + 1) rows) ≡ r ∷ []) × (number_in (column r 1) ≡ Some x)
  some_now q x has = elim (cases_Bool (q == placed.priority)) [
    | inl holds ↦ (
      row,
      rows_now q true holds ∙ ap (λ l. l ++ row ∷ []) (none_before q holds),
      placed.tells
          ∙ sym (value_now q true holds) ∙ has,
    )
    | inr fails ↦ let it =
        reported.some q x (sym (value_now q false fails) ∙ has) in (it.0, rows_now q false fails ∙ ap (λ l. l ++ []) it.1, it.2)
  ]

  within_now : (q : ℕ) (x : ℤ) → get new q ≡ Some x → (1 ≤ q) × (q ≤ 16)
  within_now q x has = elim (cases_Bool (q == placed.priority)) [
    | inl holds ↦ let same = eqb-true q placed.priority holds in (omega (arith, same, placed.least), omega (arith, same, placed.greatest))
    | inr fails ↦ reported.within q x (sym (value_now q false fails) ∙ has)
  ]

  each_now : (r : Row) → Has (take (i + 1) rows) r
      → ((priority : ℕ) × (count_in 1 16 (column r 0) ≡ Some priority)) × ((x : ℤ) × (number_in (column r 1) ≡ Some x))
  each_now r there =
      let all : take (i + 1) rows ≡ take i rows ++ row ∷ [] = take_more rows i row below ∙ ap (λ x. take i rows ++ x ∷ []) (sym here) in
      elim (has_pushed (take i rows) row r (subst (λ l. Has l r) all there)) [
        | inl old ↦ reported.each r old
        | inr same ↦ (
          (placed.priority, ap (λ x. count_in 1 16 (column x 0)) same ∙ placed.at),
          (placed.value, ap (λ x. number_in (column x 1)) same ∙ placed.tells),
        )
      ]

  pub reported_more : AreReported (take (i + 1) rows) new
  reported_more = record { none = none_now; some = some_now; within = within_now; each = each_now }

-- ---- what the rows of a point tell

both_filters : {X : Type 0} (p q : X → Bool) (xs : List X) → filter p (filter q xs) ≡ filter (λ x. q x && p x) xs
both_filters p q [] = refl
both_filters p q (x ∷ xs) =
    elim (q x) as (λ b. filter p (cond b (x ∷ filter q xs) (filter q xs))
    ≡ cond (b && p x) (x ∷ filter (λ y. q y && p y) xs) (filter (λ y. q y && p y) xs))
    [ true ↦ ap (λ l. cond (p x) (x ∷ l) l) (both_filters p q xs) | false ↦ both_filters p q xs ]

abbrev both : Row → Row
both row = column row 2 ∷ column row 3 ∷ column row 0 ∷ []

abbrev second : Row → Row
second row = column row 1 ∷ []

taken_of : (places : Places) (q : ℕ) → is_some (get places q) ≡ true → (x : ℤ) × (get places q ≡ Some x)
taken_of places q taken = of (get places q) taken
  where
    of : (o : Option ℤ) → is_some o ≡ true → (x : ℤ) × (o ≡ Some x)
    of None is = absurd (true≢false (sym is))
    of (Some x) is = (x, refl)

module _ (point : List ℕ) (kept : Kept) (answer : List Row) (named : IsName point)
    (found : Finds (λ row. is_text point (column row 1)) (λ row. column row 2 ∷ column row 3 ∷ column row 0 ∷ []) kept.place answer) where
  found_at : (q : ℕ) → Finds (of_place point q) (λ row. column row 3 ∷ []) kept.place (map second (rows_at q answer))
  found_at q =
      let here = λ (row : Row). is_text point (column row 1) in
      let of_q = λ (row : Row). is_count q (column row 0) in
      let permuted : IsPermutation (filter of_q (map both (filter here kept.place))) (rows_at q answer) =
      IsPermutation-filter of_q (map both (filter here kept.place)) answer found.shown in
      let moved : filter of_q (map both (filter here kept.place)) ≡ map both (filter (of_place point q) kept.place) =
      filter-map of_q both (filter here kept.place) ∙ ap (map both) (both_filters (λ row. is_count q (column row 2)) here kept.place) in
      let seen : IsPermutation (map both (filter (of_place point q) kept.place)) (rows_at q answer) =
      subst (λ l. IsPermutation l (rows_at q answer)) moved permuted in
      let mapped : IsPermutation (map second (map both (filter (of_place point q) kept.place))) (map second (rows_at q answer)) =
      IsPermutation-map second _ _ seen in
      record {
        shown =
            subst (λ l. IsPermutation l (map second (rows_at q answer))) (map-map second both (filter (of_place point q) kept.place)) mapped;
      }

  inside : (array : Places) → AreReported answer array → (q : ℕ) → 1 ≤ q → q ≤ 16 → (o : Option ℤ) → get array q ≡ o
      → o ≡ get ((tables_in kept).places point) q
  inside array reported q low high None is =
      sym (place_none point q kept (map second (rows_at q answer)) (named, count_given 1 16 q low high) (found_at q)
      (ap (map second) (reported.none q is)))
  inside array reported q low high (Some x) is =
      let it = reported.some q x is in
      sym (place_one point q kept (map second (rows_at q answer)) (named, count_given 1 16 q low high) (found_at q) (second it.0) x
      (ap (map second) it.1) it.2)

  outside : (array : Places) → AreReported answer array → (q : ℕ) → (1 ≤ q → q ≤ 16 → ⊥) → get ((tables_in kept).places point) q ≡ None
      → (o : Option ℤ) → get array q ≡ o → o ≡ get ((tables_in kept).places point) q
  outside array reported q apart none None is = sym none
  outside array reported q apart none (Some x) is = let lies = reported.within q x is in absurd (apart lies.0 lies.1)

  each : (array : Places) → AreReported answer array → (q : ℕ) → get array q ≡ get ((tables_in kept).places point) q
  each array reported q =
      let sixteen = outside_places point kept in
      elim (cases_Bool (nat_lt q 1)) [
        | inl less ↦ let zero : q ≡ 0 = (let under = ltb-true q 1 less in omega (arith, under)) in
            outside array reported q (λ low high. omega (arith, zero, low))
            (ap (get ((tables_in kept).places point)) zero ∙ sixteen.above) (get array q) refl
        | inr more ↦ elim (cases_Bool (nat_lt 16 q)) [
          | inl far ↦ let over =
              ltb-true 16 q far in outside array reported q (λ low high. omega (arith, over, high)) (sixteen.below q over) (get array q) refl
          | inr near ↦ inside array reported q (ltb-false q 1 more) (ltb-false 16 q near) (get array q) refl
        ]
      ]

  pub reported_all : (array : Places) → AreReported answer array → array ≡ (tables_in kept).places point
  reported_all array reported = same_map nat_cmp_total nat_cmp-IsAntisymmetric array ((tables_in kept).places point) (each array reported)

  -- ---- a row that cannot be placed

  no_priority : (row : Row) → Has answer row → count_in 1 16 (column row 0) ≡ None → cannot_stand_in kept (ArrayOf point) ≡ true
  no_priority row had unread =
      let it = found_origin _ _ kept.place answer row found had in
      let reads : count_in 1 16 (column it.0 2) ≡ None = ap (λ r. count_in 1 16 (column r 0)) (sym it.3) ∙ unread in
      broken_here place_said (λ r. is_text point (column r 1)) same_place kept.place it.0 it.1 it.2
      (rw (name_here point (column it.0 1) named it.2, reads) refl)

  no_value : (row : Row) (priority : ℕ) → Has answer row → count_in 1 16 (column row 0) ≡ Some priority → number_in (column row 1) ≡ None
      → cannot_stand_in kept (ArrayOf point) ≡ true
  no_value row priority had at unread =
      let it = found_origin _ _ kept.place answer row found had in
      let counted : count_in 1 16 (column it.0 2) ≡ Some priority = ap (λ r. count_in 1 16 (column r 0)) (sym it.3) ∙ at in
      let reads : number_in (column it.0 3) ≡ None = ap (λ r. number_in (column r 1)) (sym it.3) ∙ unread in
      broken_here place_said (λ r. is_text point (column r 1)) same_place kept.place it.0 it.1 it.2
      (rw (name_here point (column it.0 1) named it.2, counted, reads) refl)

  -- the rows of a place are among those of its point
  place_again : (priority : ℕ) (rows : List Row)
      → filter (of_place point priority) (filter (λ r. is_text point (column r 1)) rows) ≡ filter (of_place point priority) rows
  place_again priority [] = refl
  place_again priority (row ∷ rows) = elim (cases_Bool (is_text point (column row 1))) [
    | inl is ↦ rw (is, is) (ap (λ l. cond (is_count priority (column row 2)) (row ∷ l) l) (place_again priority rows))
    | inr is ↦ rw is (place_again priority rows)
  ]

  same_key : (priority : ℕ) (x y : PlaceValue) → (bytes_eq point x.point && priority == x.priority) ≡ true
      → (bytes_eq point y.point && priority == y.priority) ≡ true → same_place x y ≡ true
  same_key priority x y first second =
      let one = and_parts (bytes_eq point x.point) (priority == x.priority) first in
      let other = and_parts (bytes_eq point y.point) (priority == y.priority) second in
      and_from _ _ (alike-text point x.point y.point one.0 other.0) (alike-number priority x.priority y.priority one.1 other.1)

  -- the rows of a priority that two rows tell
  several : (i : ℕ) (row : Row) (old : Places) → i < length answer → row ≡ get_or answer i row → AreReported (take i answer) old
      → (priority : ℕ) → count_in 1 16 (column row 0) ≡ Some priority → (x : ℤ) → get old priority ≡ Some x
      → AreSeveral (map second (rows_at priority answer))
  several i row old below here reported priority at x has =
      let first = reported.some priority x has in
      let counted : is_count priority (column row 0) ≡ true =
      count_read priority (column row 0) at priority ∙ eq-eqb priority priority refl in
      let two : rows_at priority (take (i + 1) answer) ≡ first.0 ∷ row ∷ [] =
      one_more answer i row below here priority ∙ ap (λ t. rows_at priority (take i answer) ++ cond t (row ∷ []) []) counted
      ∙ ap (λ l. l ++ row ∷ []) first.1 in
      let rest = rows_at priority (drop (i + 1) answer) in
      let whole : rows_at priority answer ≡ first.0 ∷ row ∷ rest =
      sym (ap (rows_at priority) (take-append-drop (i + 1) answer))
      ∙ filter-append (λ r. is_count priority (column r 0)) (take (i + 1) answer) (drop (i + 1) answer) ∙ ap (λ l. l ++ rest) two in
      record { first = second first.0; second = second row; more = map second rest; is = ap (map second) whole }

  twice : (i : ℕ) (row : Row) (old : Places) → i < length answer → row ≡ get_or answer i row → AreReported (take i answer) old
      → (priority : ℕ) → count_in 1 16 (column row 0) ≡ Some priority → is_some (get old priority) ≡ true
      → cannot_stand_in kept (ArrayOf point) ≡ true
  twice i row old below here reported priority at taken =
      let has = taken_of old priority taken in
      let lies = reported.within priority has.0 has.1 in
      let two = several i row old below here reported priority at has.0 has.1 in
      let it = found_two _ _ kept.place (map second (rows_at priority answer)) two.first two.second two.more (found_at priority) two.is in
      ap not (two-rows place_said same_place (of_place point priority) (λ y. bytes_eq point y.point && priority == y.priority)
      (place-agrees point priority) (same_key priority) (filter (λ r. is_text point (column r 1)) kept.place) it.0 it.1 it.2
      (place_again priority kept.place ∙ it.3))

  of_parts : (i : ℕ) (row : Row) (old : Places) → i < length answer → row ≡ get_or answer i row → AreReported (take i answer) old
      → (o : Option ℕ) (v : Option ℤ) → count_in 1 16 (column row 0) ≡ o → number_in (column row 1) ≡ v
      → (is_taken_in old o || not (is_some v)) ≡ true → cannot_stand_in kept (ArrayOf point) ≡ true
  of_parts i row old below here reported None v at tells is = no_priority row (has_at answer i row below here) at
  of_parts i row old below here reported (Some priority) None at tells is = no_value row priority (has_at answer i row below here) at tells
  of_parts i row old below here reported (Some priority) (Some x) at tells is = elim (cases_Bool (is_some (get old priority))) [
    | inl holds ↦ twice i row old below here reported priority at holds
    | inr fails ↦ absurd (true≢false (sym is ∙ ap (λ b. b || false) fails))
  ]

  pub cannot : (i : ℕ) (row : Row) (old : Places) → i < length answer → row ≡ get_or answer i row → AreReported (take i answer) old
      → IsTrue (cannot_place row old) → cannot_stand_in kept (ArrayOf point) ≡ true
  cannot i row old below here reported is =
      of_parts i row old below here reported (count_in 1 16 (column row 0)) (number_in (column row 1)) refl refl is

  -- ---- rows that were all placed

  -- a priority has no row, or one
  at_most_one : (array : Places) → AreReported answer array → (q : ℕ) (o : Option ℤ) → get array q ≡ o
      → length (filter (of_place point q) kept.place) ≤ 1
  at_most_one array reported q None is =
      let none = found_none _ _ kept.place (map second (rows_at q answer)) (found_at q) (ap (map second) (reported.none q is)) in
      omega (arith, ap length none)
  at_most_one array reported q (Some x) is =
      let it = reported.some q x is in
      let one = found_one _ _ kept.place (map second (rows_at q answer)) (second it.0) (found_at q) (ap (map second) it.1) in
      omega (arith, ap length one.1)

  each_said : (array : Places) → AreReported answer array → (row : Row) → Has kept.place row → is_text point (column row 1) ≡ true
      → is_some (place_said row) ≡ true
  each_said array reported row here of =
      let there = found_shown _ _ kept.place answer row found here of in
      let placed = reported.each (both row) there in
      rw (name_here point (column row 1) named of, placed.0.1, placed.1.1) refl

  one_of : (array : Places) → AreReported answer array → (x : PlaceValue)
      → length (filter (same_place x) (filter_map place_said (filter (λ (r : Row). is_text point (column r 1)) kept.place))) ≤ 1
  one_of array reported x =
      let picked = filter (λ (r : Row). is_text point (column r 1)) kept.place in
      let items : filter_map place_said (filter (of_place x.point x.priority) picked)
      ≡ filter (same_place x) (filter_map place_said picked) =
      said-filter place_said (of_place x.point x.priority) (same_place x) (place-agrees x.point x.priority) picked in
      let said = no_more_said place_said (filter (of_place x.point x.priority) picked) in
      let rows = fewer (of_place x.point x.priority) (λ (r : Row). is_text point (column r 1)) (of_place point x.priority)
      (λ row of is. and_from _ _ of (and_parts (is_text x.point (column row 1)) (is_count x.priority (column row 2)) is).1) kept.place in
      let most = at_most_one array reported x.priority (get array x.priority) refl in
      omega (arith, ap length items, said, rows, most)

  pub reported_stands : (array : Places) → AreReported answer array → cannot_stand_in kept (ArrayOf point) ≡ false
  reported_stands array reported =
      let picked = filter (λ (r : Row). is_text point (column r 1)) kept.place in
      ap not (and_from (list_all (λ r. is_some (place_said r)) picked) (are_apart same_place (filter_map place_said picked))
      (list_all_from (λ r. is_some (place_said r)) picked (λ row here.
      let had = has_filtered (λ (r : Row). is_text point (column r 1)) kept.place row here in each_said array reported row had.0 had.1))
      (apart_from same_place (λ x. and_from _ _ (text-same x.point x.point refl) (eq-eqb x.priority x.priority refl)) (filter_map place_said picked)
      (λ x. one_of array reported x)))
