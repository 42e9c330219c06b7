-- What tables are stored by their rows, where rows come or go, and what the rows of a key tell.
use Rattle.std.proofs.Common.{◌≡◌, Bool, true, false, not, ◌<◌, ℕ, zero, suc, List, [], ◌∷◌, ◌++◌, Option, Some, None, is_some, filter, filter_map, Contains}
use Rattle.std.proofs.Common.{refl, sym, ap, ◌∙◌, inl, inr, arith, length, get_or}
use Rattle.std.specs.List.{list_all, cons_option}
use Rattle.std.proofs.lemmas.Bool.{cases_Bool, false≢true, and_parts, and_from, and_left, false_from_ne_true}
use Rattle.std.proofs.lemmas.List.Elements.{filter_map-append}
use Rattle.std.proofs.lemmas.List.Folds.{list_all_at}
use Rattle.sqlite_value.specs.Order.{Row}
use Rattle.store.specs.Change.{with_each}
use Rattle.store_sql_rows.specs.Stored.{HasLost, HasPut, are_apart, can_stand}
use Rattle.store_sql_rows.proofs.FoldLemmas.{with_each-append, with_each-without, with_each-past, with_each-unseen, with_each-seen, with_each-stays}
use Rattle.store_sql_rows.proofs.FoldLemmas.{all-filter, all-kept, all-parts, all-put, apart-kept, apart-put}

-- a test of rows and one of items are the same
abbrev pub Agrees : {Item : Type 0} → (Row → Option Item) → (Row → Bool) → (Item → Bool) → Type 0
Agrees {Item} said of_key has_key = (row : Row) (item : Item) → said row ≡ Some item → of_key row ≡ has_key item

module _ {Item : Type 0} (has_key : Item → Bool) where
  item-stays : (o : Option Item) (ys zs : List Item) → ((x : Item) → o ≡ Some x → has_key x ≡ true) → zs ≡ filter has_key ys
      → cons_option o zs ≡ filter has_key (cons_option o ys)
  item-stays None ys zs has is = is
  item-stays (Some x) ys zs has is = let yes : has_key x ≡ true = has x refl in rw yes (ap (λ list. x ∷ list) is)

  pub item-goes : (o : Option Item) (ys zs : List Item) → ((x : Item) → o ≡ Some x → has_key x ≡ false) → zs ≡ filter has_key ys
      → zs ≡ filter has_key (cons_option o ys)
  item-goes None ys zs has is = is
  item-goes (Some x) ys zs has is = let no : has_key x ≡ false = has x refl in rw no is

module _ {Item : Type 0} (said : Row → Option Item) where
  pub said-filter : (of_key : Row → Bool) (has_key : Item → Bool) → Agrees said of_key has_key
      → (rows : List Row) → filter_map said (filter of_key rows) ≡ filter has_key (filter_map said rows)
  said-filter of_key has_key agrees [] = refl
  said-filter of_key has_key agrees (row ∷ rows) =
      let rest = said-filter of_key has_key agrees rows in
      elim (cases_Bool (of_key row)) [
        | inl is ↦
            rw is (item-stays has_key (said row) (filter_map said rows) (filter_map said (filter of_key rows))
            (λ x says. sym (agrees row x says) ∙ is)
            rest)
        | inr is ↦
            rw is (item-goes has_key (said row) (filter_map said rows) (filter_map said (filter of_key rows))
            (λ x says. sym (agrees row x says) ∙ is)
            rest)
      ]

  pub said-of : (row : Row) → is_some (said row) ≡ true → (x : Item) × (said row ≡ Some x)
  said-of row is = found (said row) is where
    found : (o : Option Item) → is_some o ≡ true → (x : Item) × (o ≡ Some x)
    found None none = absurd (false≢true none)
    found (Some x) some = (x, refl)

  said-cons : (row : Row) (rows : List Row) (x : Item) → said row ≡ Some x → filter_map said (row ∷ rows) ≡ x ∷ filter_map said rows
  said-cons row rows x says = ap (λ o. cons_option o (filter_map said rows)) says

  said-put : (before : List Row) (row : Row) (after : List Row) (x : Item) → said row ≡ Some x
      → filter_map said (before ++ row ∷ after) ≡ filter_map said before ++ x ∷ filter_map said after
  said-put before row after x says =
      filter_map-append said before (row ∷ after) ∙ ap (λ list. filter_map said before ++ list) (said-cons row after x says)

-- ---- rows that come and go

module _ {Item Table : Type 0} (said : Row → Option Item) (same : Item → Item → Bool) (put : Item → Table → Table) (start : Table)
    (of_key : Row → Bool) (has_key : Item → Bool) (agrees : Agrees said of_key has_key) where
  left-agrees : Agrees said (λ r. not (of_key r)) (λ y. not (has_key y))
  left-agrees row item says = ap not (agrees row item says)

  pub stand-kept : (rows : List Row) → can_stand said same rows ≡ true → can_stand said same (filter (λ r. not (of_key r)) rows) ≡ true
  stand-kept rows stand =
      let both = and_parts (list_all (λ r. is_some (said r)) rows) (are_apart same (filter_map said rows)) stand in
      let apart : are_apart same (filter_map said (filter (λ r. not (of_key r)) rows)) ≡ true =
      ap (are_apart same) (said-filter said (λ r. not (of_key r)) (λ y. not (has_key y)) left-agrees rows)
      ∙ apart-kept same (λ y. not (has_key y)) (filter_map said rows) both.1 in
      and_from _ _ (all-kept (λ r. is_some (said r)) (λ r. not (of_key r)) rows both.0) apart

  pub lost : (g : Table → Table) → ((y : Item) (t : Table) → has_key y ≡ true → g (put y t) ≡ g t)
      → ((y : Item) (t : Table) → has_key y ≡ false → g (put y t) ≡ put y (g t)) → g start ≡ start
      → (old now : List Row) → HasLost of_key old now
      → (with_each put (filter_map said now) start ≡ g (with_each put (filter_map said old) start))
      × (can_stand said same old ≡ true → can_stand said same now ≡ true)
  lost g absorb commute none old now left =
      let items : filter_map said now ≡ filter (λ y. not (has_key y)) (filter_map said old) =
      ap (filter_map said) left ∙ said-filter said (λ r. not (of_key r)) (λ y. not (has_key y)) left-agrees old in
      let table : with_each put (filter_map said now) start ≡ g (with_each put (filter_map said old) start) =
      ap (λ list. with_each put list start) items ∙ ap (with_each put (filter (λ y. not (has_key y)) (filter_map said old))) (sym none)
      ∙ with_each-without put has_key g absorb commute (filter_map said old) start in
      (table, λ stand. ap (can_stand said same) left ∙ stand-kept old stand)

module _ {Item Table : Type 0} (said : Row → Option Item) (same : Item → Item → Bool) (put : Item → Table → Table) (start : Table)
    (either : (x y : Item) → same x y ≡ same y x) (x : Item) (absorb : (y : Item) (t : Table) → same x y ≡ true → put x (put y t) ≡ put x t)
    (commute : (y : Item) (t : Table) → same x y ≡ false → put x (put y t) ≡ put y (put x t)) (of_key : Row → Bool)
    (agrees : Agrees said of_key (same x)) where
  pub put-row : (row : Row) → said row ≡ Some x → (old now : List Row) → HasPut row of_key old now
      → (with_each put (filter_map said now) start ≡ put x (with_each put (filter_map said old) start))
      × (can_stand said same old ≡ true → can_stand said same now ≡ true)
  put-row row says old now has =
      let before = filter_map said has.before in
      let after = filter_map said has.after in
      let others : Item → Bool = λ y. not (same x y) in
      let items : filter others (filter_map said old) ≡ before ++ after =
      sym (said-filter said (λ r. not (of_key r)) others (left-agrees said same put start of_key (same x) agrees) old)
      ∙ ap (filter_map said) has.left ∙ filter_map-append said has.before has.after in
      let apart : list_all others (before ++ after) ≡ true = sym (ap (list_all others) items) ∙ all-filter others (filter_map said old) in
      let made : filter_map said now ≡ before ++ x ∷ after = ap (filter_map said) has.is ∙ said-put said has.before row has.after x says in
      let first : with_each put before (put x start) ≡ put x (with_each put before start) =
      with_each-past put (same x) (put x) absorb commute before start (all-parts others before after apart).0 in
      let table : with_each put (filter_map said now) start ≡ put x (with_each put (filter_map said old) start) =
      ap (λ list. with_each put list start) made ∙ with_each-append put before (x ∷ after) start ∙ ap (with_each put after) (sym first)
      ∙ sym (with_each-append put before after (put x start)) ∙ ap (λ list. with_each put list (put x start)) (sym items)
      ∙ with_each-without put (same x) (put x) absorb commute (filter_map said old) start in
      let stands : can_stand said same old ≡ true → can_stand said same now ≡ true = λ stand.
      let both = and_parts (list_all (λ r. is_some (said r)) old) (are_apart same (filter_map said old)) stand in
      let kept : list_all (λ r. is_some (said r)) (has.before ++ has.after) ≡ true =
      sym (ap (list_all (λ r. is_some (said r))) has.left) ∙ all-kept (λ r. is_some (said r)) (λ r. not (of_key r)) old both.0 in
      let left : are_apart same (before ++ after) ≡ true =
      sym (ap (are_apart same) items) ∙ apart-kept same others (filter_map said old) both.1 in
      and_from _ _ (ap (list_all (λ r. is_some (said r))) has.is
      ∙ all-put (λ r. is_some (said r)) has.before row has.after kept (ap is_some says))
      (ap (are_apart same) made ∙ apart-put same either before x after left apart) in
      (table, stands)

-- ---- what the rows of a key tell

module _ {Item Table Seen : Type 0} (said : Row → Option Item) (put : Item → Table → Table) (start : Table) (seen : Table → Seen)
    (of_key : Row → Bool)
    (has_key : Item → Bool) (agrees : Agrees said of_key has_key)
    (leaves : (y : Item) (t : Table) → has_key y ≡ false → seen (put y t) ≡ seen t) where
  pub no-row : (rows : List Row) → filter of_key rows ≡ [] → seen (with_each put (filter_map said rows) start) ≡ seen start
  no-row rows none =
      with_each-unseen put seen has_key leaves (filter_map said rows) start
      (sym (said-filter said of_key has_key agrees rows) ∙ ap (filter_map said) none)

  pub one-row : (value : Item → Seen) → ((y : Item) (t : Table) → has_key y ≡ true → seen (put y t) ≡ value y)
      → (rows : List Row) (row : Row) (x : Item) → filter of_key rows ≡ row ∷ [] → said row ≡ Some x
      → seen (with_each put (filter_map said rows) start) ≡ value x
  one-row value shows rows row x only says =
      with_each-seen put seen has_key leaves value shows (filter_map said rows) x start
      (sym (said-filter said of_key has_key agrees rows) ∙ ap (filter_map said) only ∙ said-cons said row [] x says)

module _ {Item : Type 0} (said : Row → Option Item) (same : Item → Item → Bool) where
  pub bad-row : (rows : List Row) (row : Row) → Contains rows row → said row ≡ None → can_stand said same rows ≡ false
  bad-row rows row here none =
      let this : is_some (said (get_or rows here.0 row)) ≡ false = ap (λ r. is_some (said r)) here.2 ∙ ap is_some none in
      and_left _ _ (list_all_at (λ r. is_some (said r)) rows here.0 row here.1 this)

  pub two-rows : (of_key : Row → Bool) (has_key : Item → Bool) → Agrees said of_key has_key
      → ((x y : Item) → has_key x ≡ true → has_key y ≡ true → same x y ≡ true)
      → (rows : List Row) (a b : Row) (more : List Row) → filter of_key rows ≡ a ∷ b ∷ more → can_stand said same rows ≡ false
  two-rows of_key has_key agrees alike rows a b more two =
      false_from_ne_true _ (λ stand.
      let both = and_parts (list_all (λ r. is_some (said r)) rows) (are_apart same (filter_map said rows)) stand in
      let say : list_all (λ r. is_some (said r)) (a ∷ b ∷ more) ≡ true =
      sym (ap (list_all (λ r. is_some (said r))) two) ∙ all-kept (λ r. is_some (said r)) of_key rows both.0 in
      let a_says = and_parts (is_some (said a)) _ say in
      let x = said-of said a a_says.0 in
      let y = said-of said b (and_parts (is_some (said b)) _ a_says.1).0 in
      let of : list_all of_key (a ∷ b ∷ more) ≡ true = sym (ap (list_all of_key) two) ∙ all-filter of_key rows in
      let a_of = and_parts (of_key a) _ of in
      let x_has : has_key x.0 ≡ true = sym (agrees a x.0 x.1) ∙ a_of.0 in
      let y_has : has_key y.0 ≡ true = sym (agrees b y.0 y.1) ∙ (and_parts (of_key b) _ a_of.1).0 in
      let items : filter has_key (filter_map said rows) ≡ x.0 ∷ y.0 ∷ filter_map said more =
      sym (said-filter said of_key has_key agrees rows) ∙ ap (filter_map said) two
      ∙ said-cons said a (b ∷ more) x.0 x.1 ∙ ap (λ list. x.0 ∷ list) (said-cons said b more y.0 y.1) in
      let apart : are_apart same (x.0 ∷ y.0 ∷ filter_map said more) ≡ true =
      sym (ap (are_apart same) items) ∙ apart-kept same has_key (filter_map said rows) both.1 in
      let same_key : same x.0 y.0 ≡ true = alike x.0 y.0 x_has y_has in
      let clash = rw same_key at apart in
      false≢true clash)

-- a row that is there is seen where nothing that it shows goes
module _ {Item Table : Type 0} (said : Row → Option Item) (put : Item → Table → Table) (seen : Table → Bool) where
  one-more : (rows : List Row) (o : Option Item) (t : Table) → ((u : Table) → seen (with_each put (filter_map said rows) u) ≡ true)
      → seen (with_each put (cons_option o (filter_map said rows)) t) ≡ true
  one-more rows None t rest = rest t
  one-more rows (Some y) t rest = rest (put y t)

  pub here-row : ((y : Item) (t : Table) → seen t ≡ true → seen (put y t) ≡ true) → (x : Item) → ((t : Table) → seen (put x t) ≡ true)
      → (rows : List Row) (row : Row) → said row ≡ Some x → (k : ℕ) → k < length rows → get_or rows k row ≡ row
      → (t : Table) → seen (with_each put (filter_map said rows) t) ≡ true
  here-row stays x shows [] row says k within is t = absurd (omega arith)
  here-row stays x shows (r ∷ rows) row says zero within is t =
      let items : filter_map said (r ∷ rows) ≡ x ∷ filter_map said rows = said-cons said r rows x (ap said is ∙ says) in
      ap (λ list. seen (with_each put list t)) items ∙ with_each-stays put seen stays (filter_map said rows) (put x t) (shows t)
  here-row stays x shows (r ∷ rows) row says (suc k) within is t =
      one-more rows (said r) t (λ u. here-row stays x shows rows row says k (omega arith) is u)
