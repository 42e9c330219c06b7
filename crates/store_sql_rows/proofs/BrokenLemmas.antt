-- Whether the rows of a key can stand.
use Rattle.std.proofs.Common.{◌≡◌, Bool, true, false, not, List, [], ◌∷◌, Option, Some, None, is_some, filter, filter_map, refl, sym, ap, ◌∙◌, inl, inr, true≢false}
use Rattle.std.specs.List.{cons_option, list_all, list_any}
use Rattle.std.proofs.lemmas.Bool.{and_from, and_left, and_parts, and_right, cases_Bool, or_from, or_left, or_parts, or_right}
use Rattle.sqlite_rules.specs.Lists.{Has}
use Rattle.sqlite_rules.proofs.ListLemmas.{has_filtered, has_kept}
use Rattle.sqlite_value.specs.Order.{Row}
use Rattle.store_sql_rows.specs.Broken.{are_broken, are_unsaid}
use Rattle.store_sql_rows.specs.Stored.{are_apart, can_stand}
use Rattle.store_sql_rows.proofs.FoldLemmas.{all-kept}
use Rattle.store_sql_rows.proofs.StoredRowLemmas.{Agrees, two-rows}

not_true : (b : Bool) → not b ≡ true → b ≡ false
not_true true is = sym is
not_true false is = refl

-- ---- whether a test holds of some row

pub has_any : (test : Row → Bool) (rows : List Row) (row : Row) → Has rows row → test row ≡ true → list_any test rows ≡ true
has_any test [] row here is = absurd here
has_any test (r ∷ rows) row (inl same) is = or_left (test r) (list_any test rows) (sym (ap test same) ∙ is)
has_any test (r ∷ rows) row (inr here) is = or_right (test r) (list_any test rows) (has_any test rows row here is)

pub has_none : (test : Row → Bool) (rows : List Row) → ((row : Row) → Has rows row → test row ≡ false) → list_any test rows ≡ false
has_none test [] none = refl
has_none test (r ∷ rows) none =
    or_from (test r) (list_any test rows) (none r (inl refl)) (has_none test rows (λ row here. none row (inr here)))

list_all_had : (test : Row → Bool) (rows : List Row) (row : Row) → Has rows row → test row ≡ false → list_all test rows ≡ false
list_all_had test [] row here is = absurd here
list_all_had test (r ∷ rows) row (inl same) is = and_left (test r) (list_all test rows) (sym (ap test same) ∙ is)
list_all_had test (r ∷ rows) row (inr here) is = and_right (test r) (list_all test rows) (list_all_had test rows row here is)

pub list_all_from : (test : Row → Bool) (rows : List Row) → ((row : Row) → Has rows row → test row ≡ true) → list_all test rows ≡ true
list_all_from test [] each = refl
list_all_from test (r ∷ rows) each =
    and_from (test r) (list_all test rows) (each r (inl refl)) (list_all_from test rows (λ row here. each row (inr here)))

-- where each row says something, a test of rows that say nothing holds of none
pub none_unsaid : {Item : Type 0} (said : Row → Option Item) (test : Row → Bool) → ((row : Row) → test row ≡ true → said row ≡ None)
    → (rows : List Row) → list_all (λ row. is_some (said row)) rows ≡ true → list_any test rows ≡ false
none_unsaid said test silent [] all = refl
none_unsaid said test silent (row ∷ rows) all =
    let both = and_parts (is_some (said row)) (list_all (λ r. is_some (said r)) rows) all in
    or_from (test row) (list_any test rows) (of (test row) refl both.0) (none_unsaid said test silent rows both.1)
  where
    of : (b : Bool) → test row ≡ b → is_some (said row) ≡ true → b ≡ false
    of false is some = refl
    of true is some = absurd (true≢false (sym some ∙ ap is_some (silent row is)))

-- ---- the rows of a key

-- what was picked is picked once more
pub picked_again : (pick : Row → Bool) (rows : List Row) → filter pick (filter pick rows) ≡ filter pick rows
picked_again pick [] = refl
picked_again pick (row ∷ rows) = elim (cases_Bool (pick row)) [
  | inl is ↦ rw (is, is) (ap (λ l. row ∷ l) (picked_again pick rows))
  | inr is ↦ rw (is) (picked_again pick rows)
]

module _ {Item : Type 0} (said : Row → Option Item) (same : Item → Item → Bool) (pick : Row → Bool) (rows : List Row) where
  pub none_stands : filter pick rows ≡ [] → are_broken said same pick rows ≡ false
  none_stands none = ap (λ l. not (can_stand said same l)) none

  pub one_stands : (row : Row) (item : Item) → filter pick rows ≡ row ∷ [] → said row ≡ Some item → are_broken said same pick rows ≡ false
  one_stands row item one says = ap (λ l. not (can_stand said same l)) one ∙ rw says refl

  pub one_broken : (row : Row) → filter pick rows ≡ row ∷ [] → said row ≡ None → are_broken said same pick rows ≡ true
  one_broken row one none = ap (λ l. not (can_stand said same l)) one ∙ rw none refl

  pub two_broken : (has_key : Item → Bool) → Agrees said pick has_key
      → ((x y : Item) → has_key x ≡ true → has_key y ≡ true → same x y ≡ true)
      → (a b : Row) (more : List Row) → filter pick rows ≡ a ∷ b ∷ more → are_broken said same pick rows ≡ true
  two_broken has_key agrees alike a b more two =
      ap not (two-rows said same pick has_key agrees alike (filter pick rows) a b more (picked_again pick rows ∙ two))

-- ---- what cannot stand makes the whole unsound

module _ {Item : Type 0} (said : Row → Option Item) (same : Item → Item → Bool) (pick : Row → Bool) where
  like_one : (item : Item) (o : Option Item) (all picked : List Item) → (list_any (same item) all ≡ false → list_any (same item) picked ≡ false)
      → list_any (same item) (cons_option o all) ≡ false → list_any (same item) (cons_option o picked) ≡ false
  like_one item None all picked fewer none = fewer none
  like_one item (Some other) all picked fewer none =
      let both = or_parts (same item other) (list_any (same item) all) none in
      or_from (same item other) (list_any (same item) picked) both.0 (fewer both.1)

  like_rest : (item : Item) (o : Option Item) (all : List Item) → list_any (same item) (cons_option o all) ≡ false
      → list_any (same item) all ≡ false
  like_rest item None all none = none
  like_rest item (Some other) all none = (or_parts (same item other) (list_any (same item) all) none).1

  none_like : (item : Item) (rows : List Row) → list_any (same item) (filter_map said rows) ≡ false
      → list_any (same item) (filter_map said (filter pick rows)) ≡ false
  none_like item [] none = refl
  none_like item (row ∷ rows) none = elim (cases_Bool (pick row)) [
    | inl is ↦ rw is (like_one item (said row) (filter_map said rows) (filter_map said (filter pick rows)) (none_like item rows) none)
    | inr is ↦ rw is (none_like item rows (like_rest item (said row) (filter_map said rows) none))
  ]

  apart_one : (o : Option Item) (all picked : List Item)
      → ((item : Item) → list_any (same item) all ≡ false → list_any (same item) picked ≡ false)
      → (are_apart same all ≡ true → are_apart same picked ≡ true) → are_apart same (cons_option o all) ≡ true
      → are_apart same (cons_option o picked) ≡ true
  apart_one None all picked fewer rest apart = rest apart
  apart_one (Some item) all picked fewer rest apart =
      let both = and_parts (not (list_any (same item) all)) (are_apart same all) apart in
      and_from _ _ (ap not (fewer item (not_true (list_any (same item) all) both.0))) (rest both.1)

  apart_rest : (o : Option Item) (all : List Item) → are_apart same (cons_option o all) ≡ true → are_apart same all ≡ true
  apart_rest None all apart = apart
  apart_rest (Some item) all apart = (and_parts (not (list_any (same item) all)) (are_apart same all) apart).1

  apart_picked : (rows : List Row) → are_apart same (filter_map said rows) ≡ true
      → are_apart same (filter_map said (filter pick rows)) ≡ true
  apart_picked [] apart = refl
  apart_picked (row ∷ rows) apart = elim (cases_Bool (pick row)) [
    | inl is ↦ rw is (apart_one (said row) (filter_map said rows) (filter_map said (filter pick rows))
        (λ item none. none_like item rows none) (apart_picked rows) apart)
    | inr is ↦ rw is (apart_picked rows (apart_rest (said row) (filter_map said rows) apart))
  ]

  pub picked_stand : (rows : List Row) → can_stand said same rows ≡ true → are_broken said same pick rows ≡ false
  picked_stand rows stand =
      let both = and_parts (list_all (λ row. is_some (said row)) rows) (are_apart same (filter_map said rows)) stand in
      ap not (and_from _ _ (all-kept (λ row. is_some (said row)) pick rows both.0) (apart_picked rows both.1))

  pub picked_said : (rows : List Row) → can_stand said same rows ≡ true → are_unsaid said pick rows ≡ false
  picked_said rows stand =
      let both = and_parts (list_all (λ row. is_some (said row)) rows) (are_apart same (filter_map said rows)) stand in
      ap not (all-kept (λ row. is_some (said row)) pick rows both.0)

-- ---- a row that is picked

module _ {Item : Type 0} (said : Row → Option Item) (pick : Row → Bool) where
  pub unsaid_here : (rows : List Row) (row : Row) → Has rows row → pick row ≡ true → said row ≡ None → are_unsaid said pick rows ≡ true
  unsaid_here rows row here of none =
      ap not (list_all_had (λ r. is_some (said r)) (filter pick rows) row (has_kept pick rows row here of) (ap is_some none))

  pub all_said_here : (rows : List Row) → ((row : Row) → Has rows row → pick row ≡ true → is_some (said row) ≡ true)
      → are_unsaid said pick rows ≡ false
  all_said_here rows each =
      ap not (list_all_from (λ r. is_some (said r)) (filter pick rows) (λ row here.
      let had = has_filtered pick rows row here in each row had.0 had.1))

  pub broken_here : (same : Item → Item → Bool) (rows : List Row) (row : Row) → Has rows row → pick row ≡ true → said row ≡ None
      → are_broken said same pick rows ≡ true
  broken_here same rows row here of none =
      ap not (and_left (list_all (λ r. is_some (said r)) (filter pick rows)) (are_apart same (filter_map said (filter pick rows)))
      (list_all_had (λ r. is_some (said r)) (filter pick rows) row (has_kept pick rows row here of) (ap is_some none)))
