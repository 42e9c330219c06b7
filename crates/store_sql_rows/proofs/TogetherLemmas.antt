-- What it makes of the tables that rows are made anew together: what the items of their keys make, one after the other.
use Rattle.std.proofs.Common.{◌≡◌, inl, inr, ℕ, suc, ◌+◌, ◌<◌, length, get_or, add-one, drop-cons, ap₂, Bool, true, false, not, List, drop, ◌∷◌, filter, map, refl, sym, ap, subst, ◌∙◌, true≢false, []}
use Rattle.std.proofs.lemmas.Bool.{cases_Bool}
use Rattle.std.specs.List.{list_any}
use Rattle.std.specs.List.Sorted.{IsPermutation}
use Rattle.std.proofs.lemmas.List.Sorted.{IsPermutation-sym}
use Rattle.sqlite_value.specs.declared.value.Value.{Value}
use Rattle.sqlite_value.specs.Order.{Row}
use Rattle.sqlite_rules.specs.Edit.{is_taken}
use Rattle.sqlite_rules.specs.Lists.{Has}
use Rattle.sqlite_rules.proofs.ListLemmas.{has_filtered, has_kept, some_from, some_has}
use Rattle.sqlite_rules.proofs.ProbeLemmas.{has_mapped, mapped_has}
use Rattle.sqlite_trees.specs.Tree.{rowid}
use Rattle.store.specs.Change.{with_each}
use Rattle.store.specs.Tables.{Tables}
use Rattle.store_sql_rows.specs.Ours.{Adds, Gains, GainsAll, HasOneMore, Loses, Makes, Remakes}
use Rattle.store_sql_rows.specs.Slot.{On, Slot}
use Rattle.store_sql_rows.specs.Stored.{Kept, tables_in}
use Rattle.store_sql_rows.specs.Together.{AreOf}
use Rattle.store_sql_rows.proofs.AddLemmas.{none_of_key}
use Rattle.store_sql_rows.proofs.RowLemmas.{by_both, filter_all, filter_both, filter_same, has_more, has_permuted, not_either}

-- ---- items whose order and whose repeats tell nothing

module _ {Item Table : Type 0} (put : Item → Table → Table) (same : Item → Item → Bool)
    (absorb : (x y : Item) (t : Table) → same x y ≡ true → put x (put y t) ≡ put x t)
    (commute : (x y : Item) (t : Table) → same x y ≡ false → put x (put y t) ≡ put y (put x t)) where
  -- one that another of its key comes after
  abbrev IsCovered : List Item → Item → Type 0
  IsCovered ys x = (y : Item) × Has ys y × (same y x ≡ true)

  covered : (ys : List Item) (x : Item) (t : Table) → IsCovered ys x → with_each put ys (put x t) ≡ with_each put ys t
  covered [] x t none = absurd none.1
  covered (y ∷ ys) x t some =
      elim (cases_Bool (same y x)) [
        | inl is ↦ ap (with_each put ys) (absorb y x t is)
        | inr other ↦
            let later : IsCovered ys x = elim some.1 [
              | inl first ↦ absurd (true≢false (sym some.2 ∙ ap (λ z. same z x) first ∙ other))
              | inr h ↦ (some.0, h, some.2)
            ] in
            ap (with_each put ys) (commute y x t other) ∙ covered ys x (put y t) later
      ]

  pub all_covered : (ys xs : List Item) (t : Table) → ((x : Item) → Has xs x → IsCovered ys x)
      → with_each put ys (with_each put xs t) ≡ with_each put ys t
  all_covered ys [] t each = refl
  all_covered ys (x ∷ xs) t each = all_covered ys xs (put x t) (λ z h. each z (inr h)) ∙ covered ys x t (each x (inl refl))

  -- items of which any two may change places
  module _ (Swaps : Item → Type 0) (swap : (x y : Item) (t : Table) → Swaps x → Swaps y → put x (put y t) ≡ put y (put x t)) where
    past : (ys : List Item) (x : Item) (t : Table) → Swaps x → ((y : Item) → Has ys y → Swaps y)
        → with_each put ys (put x t) ≡ put x (with_each put ys t)
    past [] x t it each = refl
    past (y ∷ ys) x t it each =
        ap (with_each put ys) (swap y x t (each y (inl refl)) it) ∙ past ys x (put y t) it (λ z h. each z (inr h))

    blocks : (xs ys : List Item) (t : Table) → ((x : Item) → Has xs x → Swaps x) → ((y : Item) → Has ys y → Swaps y)
        → with_each put xs (with_each put ys t) ≡ with_each put ys (with_each put xs t)
    blocks [] ys t first second = refl
    blocks (x ∷ xs) ys t first second =
        ap (with_each put xs) (sym (past ys x t (first x (inl refl)) second)) ∙ blocks xs ys (put x t) (λ z h. first z (inr h)) second

    -- two lists of the same keys
    pub alike : (xs ys : List Item) (t : Table) → ((x : Item) → Has xs x → Swaps x) → ((y : Item) → Has ys y → Swaps y)
        → ((x : Item) → Has xs x → IsCovered ys x) → ((y : Item) → Has ys y → IsCovered xs y)
        → with_each put xs t ≡ with_each put ys t
    alike xs ys t first second there back =
        sym (all_covered xs ys t back) ∙ blocks xs ys t first second ∙ all_covered ys xs t there

-- ---- tables

makes_same : (k l : Kept) → l ≡ k → Makes (λ tables. tables) k l
makes_same k l is =
    subst (Makes (λ tables. tables) k) (sym is) (record { tables = refl; is_sound = λ sound. sound; stands = λ asked stood. stood })

makes_then : (f g h : Tables → Tables) → ((t : Tables) → g (f t) ≡ h t) → (a b c : Kept) → Makes f a b → Makes g b c → Makes h a c
makes_then f g h both a b c one two = record {
  tables = two.tables ∙ ap g one.tables ∙ both (tables_in a);
  is_sound = λ sound. two.is_sound (one.is_sound sound);
  stands = λ asked stood. two.stands asked (one.stands asked stood);
}

-- a table whose rows can be set
pub record IsLens (slot : Slot) : Type 0 where
  pub set_set : (x y : List Row) (k : Kept) → slot.set x (slot.set y k) ≡ slot.set x k
  pub get_set : (x : List Row) (k : Kept) → slot.get (slot.set x k) ≡ x
  pub set_get : (k : Kept) → slot.set (slot.get k) k ≡ k

module _ (slot : Slot) (lens : IsLens slot) where
  on_set : (Rows : List Row → List Row → Type 0) (rows : List Row) (k : Kept) → Rows (slot.get k) rows → On slot Rows k (slot.set rows k)
  on_set Rows rows k is = record {
    others = ap (λ l. slot.set l k) (sym (lens.get_set rows k));
    rows = subst (Rows (slot.get k)) (sym (lens.get_set rows k)) is;
  }

  module _ {Item : Type 0} (of : Item → Row → Bool) (put : Item → Tables → Tables) where
    -- the rows of no key of the items
    abbrev pub without : List Item → List Row → List Row
    without items rows = filter (λ r. not (list_any (λ item. of item r) items)) rows

    -- the rows of some keys are gone
    pub clears_all : (blank : Item → Item) → ((item : Item) (a b : Kept) → On slot (Loses (of item)) a b → Makes (put (blank item)) a b)
        → (items : List Item) (k : Kept) → Makes (with_each put (map blank items)) k (slot.set (without items (slot.get k)) k)
    clears_all blank cleared [] k =
        makes_same k (slot.set (without [] (slot.get k)) k) (ap (λ l. slot.set l k) (sym (filter_all (slot.get k))) ∙ lens.set_get k)
    clears_all blank cleared (item ∷ items) k =
        let left = filter (λ r. not (of item r)) (slot.get k) in
        let mid = slot.set left k in
        let first = cleared item k mid (on_set (Loses (of item)) left k refl) in
        let rows : without items (slot.get mid) ≡ without (item ∷ items) (slot.get k) =
        ap (without items) (lens.get_set left k) ∙ filter_both _ (λ r. not (of item r)) (slot.get k)
        ∙ filter_same _ _ (slot.get k) (λ r h. not_either (of item r) (list_any (λ other. of other r) items)) in
        let end : slot.set (without (item ∷ items) (slot.get k)) k ≡ slot.set (without items (slot.get mid)) mid =
        sym (ap (λ l. slot.set l mid) rows ∙ lens.set_set _ left k) in
        subst (Makes (with_each put (map blank (item ∷ items))) k) (sym end)
        (makes_then (put (blank item)) (with_each put (map blank items)) (with_each put (map blank (item ∷ items))) (λ t. refl) k mid
        (slot.set (without items (slot.get mid)) mid) first (clears_all blank cleared items mid))

    -- the items of rows that were added, each in the place of its row
    pub record Filled (cells : Item → Row) (items : List Item) (made : List Row) (old new : Kept) : Type 0 where
      pub items_of : List Item
      pub from : (item : Item) → Has items_of item → Has items item
      pub all : (row : Row) → Has made row → (item : Item) × Has items_of item × (id : Value) × (row ≡ id ∷ cells item)
      pub makes : Makes (with_each put items_of) old new

    still : (made old now : List Row) (x : Row) → GainsAll made old now → Has old x → Has now x
    still [] old now x is h = subst (λ l. Has l x) (sym is) h
    still (m ∷ made) old now x gained h =
        let more = gained.2 in
        still made gained.0 now x gained.3
        (subst (λ l. Has l x) (sym more.is) (has_more more.before more.after m x (subst (λ l. Has l x) more.was h)))

    module _ (cells : Item → Row) (items : List Item) (own : (item : Item) (id : Value) → of item (id ∷ cells item) ≡ true)
        (added : (item : Item) → Has items item → (a b : Kept) → On slot (Adds (of item) (cells item)) a b → Makes (put item) a b)
        (now : List Row)
        (one : (item : Item) (a b : Row) → Has now a → Has now b → of item a ≡ true → of item b ≡ true → rowid a ≡ rowid b) where
      pub fills : (made : List Row) (k : Kept)
          → ((row : Row) → Has made row → (item : Item) × Has items item × (id : Value) × (row ≡ id ∷ cells item))
          → GainsAll made (slot.get k) now → Filled cells items made k (slot.set now k)
      fills [] k each is = record {
        items_of = [];
        from = λ item h. absurd h;
        all = λ row h. absurd h;
        makes = makes_same k (slot.set now k) (ap (λ l. slot.set l k) is ∙ lens.set_get k);
      }
      fills (m ∷ made) k each gained =
          let it = each m (inl refl) in
          let mid = slot.set gained.0 k in
          let up = λ (x : Row) (h : Has gained.0 x). still made gained.0 now x gained.3 h in
          let key : of it.0 m ≡ true = ap (of it.0) it.3 ∙ own it.0 it.2 in
          let none : Loses (of it.0) (slot.get k) (slot.get k) =
          none_of_key (of it.0) m (slot.get k) gained.0 gained.2 gained.1 key
          (λ a b ha hb is_a is_b. one it.0 a b (up a ha) (up b hb) is_a is_b) in
          let gains : Gains (cells it.0) (slot.get k) gained.0 = record {
            id = it.2;
            free = subst (λ (r : Row). is_taken (slot.get k) r ≡ false) it.3 gained.1;
            more = subst (λ (r : Row). HasOneMore r (slot.get k) gained.0) it.3 gained.2;
          } in
          let first = added it.0 it.1 k mid (on_set (Adds (of it.0) (cells it.0)) gained.0 k (none, gains)) in
          let rest = fills made mid (λ row h. each row (inr h)) (subst (λ l. GainsAll made l now) (sym (lens.get_set gained.0 k)) gained.3) in
          record {
            items_of = it.0 ∷ rest.items_of;
            from = λ item h. elim h [ inl is ↦ subst (Has items) (sym is) it.1 | inr later ↦ rest.from item later ];
            all = λ row h. elim h [
              | inl is ↦ (it.0, inl refl, it.2, is ∙ it.3)
              | inr later ↦ let found = rest.all row later in (found.0, inr found.1, found.2, found.3)
            ];
            makes =
                subst (Makes (with_each put (it.0 ∷ rest.items_of)) k) (lens.set_set now gained.0 k)
                (makes_then (put it.0) (with_each put rest.items_of) (with_each put (it.0 ∷ rest.items_of)) (λ t. refl) k mid
                (slot.set now mid) first rest.makes);
          }

-- ---- rows that an UPDATE made anew, whose keys are those of some items

module _ {Item : Type 0} (slot : Slot) (lens : IsLens slot) (of : Item → Row → Bool) (put : Item → Tables → Tables)
    (cells : Item → Row) (same : Item → Item → Bool)
    (absorb : (x y : Item) (t : Tables) → same x y ≡ true → put x (put y t) ≡ put x t)
    (commute : (x y : Item) (t : Tables) → same x y ≡ false → put x (put y t) ≡ put y (put x t))
    (blank : Item → Item) (blank_same : (x y : Item) → same x y ≡ true → same x (blank y) ≡ true)
    (cleared : (item : Item) (a b : Kept) → On slot (Loses (of item)) a b → Makes (put (blank item)) a b)
    (Stands : Item → Type 0)
    (swap : (x y : Item) (t : Tables) → Stands x → Stands y → put x (put y t) ≡ put y (put x t))
    (added : (item : Item) → Stands item → (a b : Kept) → On slot (Adds (of item) (cells item)) a b → Makes (put item) a b)
    (own : (item : Item) (id : Value) → of item (id ∷ cells item) ≡ true)
    (key : Row → Row) (key_of : Item → Row) (is_of : (item : Item) (row : Row) → key row ≡ key_of item → of item row ≡ true)
    (make : Row → Row) (made_of : (item : Item) (row : Row) → Stands item → key row ≡ key_of item → make row ≡ rowid row ∷ cells item)
    (cells_same : (x y : Item) → cells x ≡ cells y → same x y ≡ true) where
  module _ (pick : Row → Bool) (items : List Item) (stand : (item : Item) → Has items item → Stands item) (old new : Kept)
      (tied : (a b : Row) → rowid a ≡ rowid b → pick a ≡ pick b)
      (one_old : (item : Item) (a b : Row) → Has (slot.get old) a → Has (slot.get old) b → of item a ≡ true → of item b ≡ true
      → rowid a ≡ rowid b)
      (one_new : (item : Item) (a b : Row) → Has (slot.get new) a → Has (slot.get new) b → of item a ≡ true → of item b ≡ true
      → rowid a ≡ rowid b)
      (found : IsPermutation (map key (filter pick (slot.get old))) (map key_of items))
      (remade : On slot (Remakes pick make) old new) where
    abbrev rows : List Row
    rows = slot.get old

    abbrev picked : List Row
    picked = filter pick rows

    item_of : (row : Row) → Has picked row → (item : Item) × Has items item × (key row ≡ key_of item)
    item_of row h =
        has_mapped key_of items (key row)
        (has_permuted (map key_of items) (map key picked) (key row) (IsPermutation-sym _ _ found) (mapped_has key picked row h))

    row_of : (item : Item) → Has items item → (row : Row) × Has picked row × (key_of item ≡ key row)
    row_of item h =
        has_mapped key picked (key_of item) (has_permuted (map key picked) (map key_of items) (key_of item) found (mapped_has key_of items item h))

    -- the rows that passed are those of the keys
    left : filter (λ r. not (pick r)) rows ≡ without slot lens of put items rows
    left = filter_same _ _ rows (λ row h. ap not (by_both (pick row) (list_any (λ item. of item row) items) (there row h) (back row h)))
      where
        there : (row : Row) → Has rows row → pick row ≡ true → list_any (λ item. of item row) items ≡ true
        there row h passes =
            let it = item_of row (has_kept pick rows row h passes) in
            some_from (λ item. of item row) items it.0 it.1 (is_of it.0 row it.2)

        back : (row : Row) → Has rows row → list_any (λ item. of item row) items ≡ true → pick row ≡ true
        back row h any =
            let it = some_has (λ item. of item row) items any in
            let was = row_of it.0 it.1 in
            let had = has_filtered pick rows was.0 was.1 in
            tied row was.0 (one_old it.0 row was.0 h had.0 it.2 (is_of it.0 was.0 (sym was.2))) ∙ had.1

    abbrev made : List Row
    made = remade.rows.made

    each : (row : Row) → Has made row → (item : Item) × Has items item × (id : Value) × (row ≡ id ∷ cells item)
    each row h =
        let from = has_mapped make picked row (has_permuted (map make picked) made row remade.rows.are h) in
        let it = item_of from.0 from.1 in
        (it.0, it.1, rowid from.0, from.2 ∙ made_of it.0 from.0 (stand it.0 it.1) it.2)

    pub makes_together : Makes (with_each put items) old new
    makes_together =
        let bare = slot.set (without slot lens of put items rows) old in
        let cleared_all = clears_all slot lens of put blank cleared items old in
        let gained : GainsAll made (slot.get bare) (slot.get new) =
        subst (λ l. GainsAll made l (slot.get new)) (left ∙ sym (lens.get_set (without slot lens of put items rows) old)) remade.rows.gained in
        let filled =
        fills slot lens of put cells items own (λ item h. added item (stand item h)) (slot.get new) one_new made bare each gained in
        let end : slot.set (slot.get new) bare ≡ new = lens.set_set (slot.get new) (without slot lens of put items rows) old ∙ sym remade.others in
        makes_then (with_each put (map blank items)) (with_each put filled.items_of) (with_each put items) (ends filled) old bare new
        cleared_all (subst (Makes (with_each put filled.items_of) bare) end filled.makes)
      where
        cover : {a b : Kept} (filled : Filled slot lens of put cells items made a b) (item : Item) → Has items item
            → (y : Item) × Has filled.items_of y × (same y item ≡ true)
        cover filled item h =
            let was = row_of item h in
            let there = has_permuted made (map make picked) (make was.0) (IsPermutation-sym _ _ remade.rows.are) (mapped_has make picked was.0 was.1) in
            let y = filled.all (make was.0) there in
            let one : y.2 ∷ cells y.0 ≡ rowid was.0 ∷ cells item = sym y.3 ∙ made_of item was.0 (stand item h) (sym was.2) in
            (y.0, y.1, cells_same y.0 item (ap (λ l. drop 1 l) one))

        ends : {a b : Kept} (filled : Filled slot lens of put cells items made a b) (t : Tables)
            → with_each put filled.items_of (with_each put (map blank items) t) ≡ with_each put items t
        ends filled t =
            let ys = filled.items_of in
            let blanks : (b : Item) → Has (map blank items) b → (y : Item) × Has ys y × (same y b ≡ true) =
            λ b h. let from = has_mapped blank items b h in
            let y = cover filled from.0 from.1 in
            (y.0, y.1, ap (same y.0) from.2 ∙ blank_same y.0 from.0 y.2) in
            all_covered put same absorb commute ys (map blank items) t blanks
            ∙ alike put same absorb commute Stands swap ys items t (λ x h. stand x (filled.from x h)) stand
            (λ x h. (x, filled.from x h, cells_same x x refl)) (cover filled)

-- ---- what an answer shows of items

are_cons : {Item : Type 0} {shown : Row → Row} {key : Item → Row} {Is : Item → Type 0} (row : Row) (item : Item) (list : List Row)
    (items : List Item) → shown row ≡ key item → Is item → AreOf shown key Is list items → AreOf shown key Is (row ∷ list) (item ∷ items)
are_cons {Is} row item list items same is rest = record {
  keys = ap₂ (λ x l. x ∷ l) same rest.keys;
  each = λ other h. elim h [ inl it ↦ subst Is (sym it) is | inr later ↦ rest.each other later ];
}

module _ {Item : Type 0} {shown : Row → Row} {key : Item → Row} {Is : Item → Type 0} (rows : List Row) (items : List Item) where
  -- one more item of a list that is tested from its front
  pub are_next : (i : ℕ) (row : Row) (item : Item) → i < length rows → i < length items → row ≡ get_or rows i row → item ≡ get_or items i item
      → shown row ≡ key item → Is item
      → (AreOf shown key Is (drop i rows) (drop i items) → AreOf shown key Is rows items)
      → AreOf shown key Is (drop (i + 1) rows) (drop (i + 1) items) → AreOf shown key Is rows items
  are_next i row item in_rows in_items is_row is_item same is whole rest =
      let one : drop i rows ≡ row ∷ drop (suc i) rows = drop-cons rows i row in_rows ∙ ap (λ it. it ∷ drop (suc i) rows) (sym is_row) in
      let other : drop i items ≡ item ∷ drop (suc i) items = drop-cons items i item in_items ∙ ap (λ it. it ∷ drop (suc i) items) (sym is_item) in
      whole (rw (one, other) (are_cons row item (drop (suc i) rows) (drop (suc i) items) same is (rw add-one at rest)))
