-- What it makes of the tables that a value is put into places, or shown by schedules, together.
use Rattle.std.proofs.Common.{◌≡◌, inl, inr, ℤ, pos, Bool, true, ◌==◌, List, [], ◌∷◌, Option, None, filter, map, refl, sym, ap, subst, ◌∙◌}
use Rattle.std.proofs.lemmas.Bool.{and_from, and_parts, cases_Bool, eqb-true}
use Rattle.std.proofs.lemmas.Bool.Decides.{Decides-eqb}
use Rattle.std.proofs.lemmas.Slice.Eq.{bytes_eq-Decides}
use Rattle.std.proofs.lemmas.List.Elements.{recursion_from_All}
use Rattle.std.proofs.lemmas.List.Sorted.{IsPermutation-map}
use Rattle.std.specs.List.{All}
use Rattle.std.specs.List.Sorted.{IsPermutation}
use Rattle.std.specs.Str.{bytes_eq}
use Rattle.sqlite_value.specs.declared.value.Value.TheVariants.{Int, Text}
use Rattle.sqlite_value.specs.Order.{Row, column}
use Rattle.sqlite_rules.proofs.ListLemmas.{all_has}
use Rattle.sqlite_trees.specs.Tree.{rowid}
use Rattle.sqlite.specs.Effect.{Database}
use Rattle.store.specs.declared.change.PlaceValue.{PlaceValue}
use Rattle.store.specs.declared.change.ShownValue.{ShownValue}
use Rattle.store.specs.Change.{IsPlace, with_each}
use Rattle.store.specs.Tables.{Tables}
use Rattle.store_sql_rows.specs.Cells.{cell_of, is_count, is_text}
use Rattle.store_sql_rows.specs.Looking.{Finds}
use Rattle.store_sql_rows.specs.Ours.{IsOurs, Makes, Remakes, is_between, kept_in}
use Rattle.store_sql_rows.specs.Rows.{of_place, of_schedule, same_place, same_schedule}
use Rattle.store_sql_rows.specs.Slot.{On, place_slot, shown_slot}
use Rattle.store_sql_rows.specs.Steps.{place_put, shown_put}
use Rattle.store_sql_rows.specs.Together.{AreOf, PlaceTakes, ScheduleTakes, place_key, place_shown, schedule_key, schedule_shown}
use Rattle.store_sql_rows.proofs.AnswerLemmas.{map_map}
use Rattle.store_sql_rows.proofs.BetweenLemmas.{tied_between}
use Rattle.store_sql_rows.proofs.ItemLemmas.{place_cleared, place_new, shown_cleared, shown_new}
use Rattle.store_sql_rows.proofs.PlaceLemmas.{one_place}
use Rattle.store_sql_rows.proofs.ReadCellLemmas.{same-text}
use Rattle.store_sql_rows.proofs.ShownLemmas.{one_shown}
use Rattle.store_sql_rows.proofs.TableLemmas.{place-absorb, place-commute, shown-absorb, shown-commute}
use Rattle.store_sql_rows.proofs.TogetherLemmas.{IsLens, makes_together}

-- an answer that shows the keys of some items, shows those of the rows
keys_of : {Item : Type 0} {shown : Row → Row} {key : Item → Row} {Is : Item → Type 0} (pick : Row → Bool) (show : Row → Row)
    (rows answer : List Row) (items : List Item) → Finds pick show rows answer → AreOf shown key Is answer items
    → IsPermutation (map (λ row. shown (show row)) (filter pick rows)) (map key items)
keys_of {shown} {key} pick show rows answer items finds are =
    subst (IsPermutation (map (λ row. shown (show row)) (filter pick rows))) are.keys
    (subst (λ l. IsPermutation l (map shown answer)) (map_map shown show (filter pick rows))
    (IsPermutation-map shown (map show (filter pick rows)) answer finds.shown))

-- ---- places

place_lens : IsLens place_slot
place_lens = record { set_set = λ x y k. refl; get_set = λ x k. refl; set_get = λ k. refl }

abbrev without_value : PlaceValue → PlaceValue
without_value item = record item { value = None }

module _ (value : ℤ) where
  abbrev PlaceStands : PlaceValue → Type 0
  PlaceStands item = PlaceTakes value item × IsPlace item

  place_swap : (x y : PlaceValue) (t : Tables) → PlaceStands x → PlaceStands y → place_put x (place_put y t) ≡ place_put y (place_put x t)
  place_swap x y t first second =
      elim (cases_Bool (same_place x y)) [
        | inl same ↦
            let parts = and_parts (bytes_eq x.point y.point) (x.priority == y.priority) same in
            let points = same-text x.point y.point parts.0 in
            let priorities = eqb-true x.priority y.priority parts.1 in
            let values : x.value ≡ y.value = first.0.1 ∙ sym second.0.1 in
            let one : x ≡ y = λ i. record { point = points i; priority = priorities i; value = values i } in
            λ i. place_put (one i) (place_put (sym one i) t)
        | inr apart ↦ λ i. record t { places = place-commute x y t.places apart i }
      ]

  abbrev place_cells : PlaceValue → Row
  place_cells item = Text item.point ∷ Int (pos item.priority) ∷ Int value ∷ []

  pub places_together : (first last : ℤ) (items : List PlaceValue) (answer : List Row) (a b : Database) → IsOurs a → IsOurs b
      → All IsPlace items → AreOf place_shown place_key (PlaceTakes value) answer items
      → Finds (is_between first last) (λ row. column row 1 ∷ column row 2 ∷ []) (kept_in a.trees).place answer
      → On place_slot (Remakes (is_between first last) (λ row. rowid row ∷ column row 1 ∷ column row 2 ∷ Int value ∷ [])) (kept_in a.trees)
      (kept_in b.trees)
      → Makes (with_each place_put items) (kept_in a.trees) (kept_in b.trees)
  places_together first last items answer a b ours_a ours_b places are finds remade =
      makes_together place_slot place_lens (λ item. of_place item.point item.priority) place_put place_cells same_place
      (λ x y t same i. record t { places = place-absorb x y t.places same i })
      (λ x y t apart i. record t { places = place-commute x y t.places apart i })
      without_value (λ x y same. same)
      (λ item k l lost. place_cleared k l (without_value item) refl lost)
      PlaceStands place_swap
      (λ item is k l added. place_new item value is.0.1 is.0.0 is.1 k l added)
      (λ item id. and_from _ _ ((bytes_eq-Decides item.point item.point).1 refl) ((Decides-eqb item.priority item.priority).1 refl))
      (λ row. column row 1 ∷ column row 2 ∷ []) place_key key_of
      (λ row. rowid row ∷ column row 1 ∷ column row 2 ∷ Int value ∷ [])
      (λ item row is same i. rowid row ∷ column (same i) 0 ∷ column (same i) 1 ∷ Int value ∷ [])
      cells_same
      (is_between first last) items
      (λ item h. (are.each item h, all_has IsPlace items item (recursion_from_All IsPlace items places) h)) (kept_in a.trees) (kept_in b.trees)
      (tied_between first last)
      (λ item x y hx hy is_x is_y. one_place a ours_a item.point item.priority x y hx hy is_x is_y)
      (λ item x y hx hy is_x is_y. one_place b ours_b item.point item.priority x y hx hy is_x is_y)
      (keys_of (is_between first last) (λ row. column row 1 ∷ column row 2 ∷ []) (kept_in a.trees).place answer items finds are) remade
    where
      key_of : (item : PlaceValue) (row : Row) → column row 1 ∷ column row 2 ∷ [] ≡ place_key item → of_place item.point item.priority row ≡ true
      key_of item row same =
          and_from _ _ (ap (λ (l : Row). is_text item.point (column l 0)) same ∙ (bytes_eq-Decides item.point item.point).1 refl)
          (ap (λ (l : Row). is_count item.priority (column l 1)) same ∙ (Decides-eqb item.priority item.priority).1 refl)

      cells_same : (x y : PlaceValue) → place_cells x ≡ place_cells y → same_place x y ≡ true
      cells_same x y same =
          and_from _ _ (ap (λ (l : Row). is_text x.point (column l 0)) (sym same) ∙ (bytes_eq-Decides x.point x.point).1 refl)
          (ap (λ (l : Row). is_count x.priority (column l 1)) (sym same) ∙ (Decides-eqb x.priority x.priority).1 refl)

-- ---- what is shown

shown_lens : IsLens shown_slot
shown_lens = record { set_set = λ x y k. refl; get_set = λ x k. refl; set_get = λ k. refl }

abbrev without_shown : ShownValue → ShownValue
without_shown item = record item { shown = None }

module _ (value : Option ℤ) where
  shown_swap : (x y : ShownValue) (t : Tables) → ScheduleTakes value x → ScheduleTakes value y
      → shown_put x (shown_put y t) ≡ shown_put y (shown_put x t)
  shown_swap x y t first second =
      elim (cases_Bool (same_schedule x y)) [
        | inl same ↦
            let schedules = same-text x.schedule y.schedule same in
            let values : x.shown ≡ y.shown = first.1 ∙ sym second.1 in
            let one : x ≡ y = λ i. record { schedule = schedules i; shown = values i } in
            λ i. shown_put (one i) (shown_put (sym one i) t)
        | inr apart ↦ λ i. record t { shown = shown-commute x y t.shown apart i }
      ]

  abbrev schedule_cells : ShownValue → Row
  schedule_cells item = Text item.schedule ∷ cell_of value ∷ []

  pub shown_together : (first last : ℤ) (items : List ShownValue) (answer : List Row) (a b : Database) → IsOurs a → IsOurs b
      → AreOf schedule_shown schedule_key (ScheduleTakes value) answer items
      → Finds (is_between first last) (λ row. column row 1 ∷ []) (kept_in a.trees).shown answer
      → On shown_slot (Remakes (is_between first last) (λ row. rowid row ∷ column row 1 ∷ cell_of value ∷ [])) (kept_in a.trees)
      (kept_in b.trees)
      → Makes (with_each shown_put items) (kept_in a.trees) (kept_in b.trees)
  shown_together first last items answer a b ours_a ours_b are finds remade =
      makes_together shown_slot shown_lens (λ item. of_schedule item.schedule) shown_put schedule_cells same_schedule
      (λ x y t same i. record t { shown = shown-absorb x y t.shown same i })
      (λ x y t apart i. record t { shown = shown-commute x y t.shown apart i })
      without_shown (λ x y same. same)
      (λ item k l lost. shown_cleared k l (without_shown item) refl lost)
      (ScheduleTakes value) shown_swap
      (λ item is k l added. shown_new item value is.1 is.0 k l added)
      (λ item id. (bytes_eq-Decides item.schedule item.schedule).1 refl)
      (λ row. column row 1 ∷ []) schedule_key key_of
      (λ row. rowid row ∷ column row 1 ∷ cell_of value ∷ [])
      (λ item row is same i. rowid row ∷ column (same i) 0 ∷ cell_of value ∷ [])
      cells_same
      (is_between first last) items are.each (kept_in a.trees) (kept_in b.trees)
      (tied_between first last)
      (λ item x y hx hy is_x is_y. one_shown a ours_a item.schedule x y hx hy is_x is_y)
      (λ item x y hx hy is_x is_y. one_shown b ours_b item.schedule x y hx hy is_x is_y)
      (keys_of (is_between first last) (λ row. column row 1 ∷ []) (kept_in a.trees).shown answer items finds are) remade
    where
      key_of : (item : ShownValue) (row : Row) → column row 1 ∷ [] ≡ schedule_key item → of_schedule item.schedule row ≡ true
      key_of item row same = ap (λ (l : Row). is_text item.schedule (column l 0)) same ∙ (bytes_eq-Decides item.schedule item.schedule).1 refl

      cells_same : (x y : ShownValue) → schedule_cells x ≡ schedule_cells y → same_schedule x y ≡ true
      cells_same x y same =
          ap (λ (l : Row). is_text x.schedule (column l 0)) (sym same) ∙ (bytes_eq-Decides x.schedule x.schedule).1 refl
