-- What becomes of the rows of a table.
use Rattle.std.proofs.Common.{◌≡◌, inl, inr, ℕ, ℤ, Bool, true, false, not, ◌&&◌, ◌||◌, List, [], ◌∷◌, ◌++◌, map, filter, refl, sym, ap, subst, ◌∙◌, IsTrue, Ordering, true≢false}
use Rattle.std.specs.declared.cmp.Ordering.TheVariants.{Less, Equal, Greater}
use Rattle.std.specs.List.{list_any}
use Rattle.std.specs.List.Sorted.{IsPermutation}
use Rattle.std.specs.Ordering.{is_eq, match_ordering}
use Rattle.std.proofs.lemmas.Bool.{cases_Bool, or_parts}
use Rattle.std.proofs.lemmas.List.Sorted.{IsPermutation-sym}
use Rattle.sqlite_trees.proofs.ListLemmas.{all-permutation}
use Rattle.std.specs.Ordering.{int_cmp}
use Rattle.std.proofs.lemmas.Cmp.{tied_itself}
use Rattle.std.proofs.lemmas.Bool.Decides.{Decides-int_eq}
use Rattle.sqlite_value.specs.declared.value.Value.TheVariants.{Int}
use Rattle.sqlite_value.specs.Order.{Row, column, value_cmp}
use Rattle.sqlite_value.proofs.OrderLemmas.{value_cmp-Int, value_cmp_total}
use Rattle.sqlite_trees.specs.Tree.{has_rowid, put_row, rowid, without_rowid}
use Rattle.sqlite_trees.specs.View.{is_int}
use Rattle.sqlite_rules.specs.Calls.{ids_of}
use Rattle.sqlite_rules.specs.Edit.{id_in, is_taken, without_all}
use Rattle.sqlite_rules.specs.Lists.{Has}
use Rattle.sqlite_rules.proofs.ListLemmas.{all_has, all_from, has_filtered, has_kept, some_from, some_has}
use Rattle.sqlite_rules.proofs.ProbeLemmas.{has_mapped, mapped_has}
use Rattle.sqlite_rules.proofs.TableLemmas.{int_is, put_has}
use Rattle.store_sql_rows.specs.Ours.{AreOwn, HasOneMore}

-- two tests that agree on the rows keep the same rows
pub filter_same : (p q : Row → Bool) (rows : List Row) → ((row : Row) → Has rows row → p row ≡ q row) → filter p rows ≡ filter q rows
filter_same p q [] same = refl
filter_same p q (r ∷ rows) same = rw (same r (inl refl), filter_same p q rows (λ x h. same x (inr h)))

pub filter_both : (p q : Row → Bool) (rows : List Row) → filter p (filter q rows) ≡ filter (λ r. q r && p r) rows
filter_both p q [] = refl
filter_both p q (r ∷ rows) =
    elim (cases_Bool (q r)) [ inl is ↦ rw (is, filter_both p q rows) | inr not_it ↦ rw (not_it, filter_both p q rows) ]

pub filter_all : (rows : List Row) → rows ≡ filter (λ r. true) rows
filter_all [] = refl
filter_all (r ∷ rows) = ap (λ l. r ∷ l) (filter_all rows)

pub not_either : (a b : Bool) → (not a && not b) ≡ not (a || b)
not_either true b = refl
not_either false b = refl

-- rows without some rowids
without_ids : (ids : List ℤ) (rows : List Row) → without_all rows ids ≡ filter (λ r. not (list_any (λ id. has_rowid id r) ids)) rows
without_ids [] rows = filter_all rows
without_ids (id ∷ ids) rows =
    without_ids ids (without_rowid id rows) ∙ filter_both _ (λ r. not (has_rowid id r)) rows
    ∙ filter_same _ _ rows (λ r h. not_either (has_rowid id r) (list_any (λ other. has_rowid other r) ids))

has_id : (id : ℤ) (row : Row) → is_int (rowid row) ≡ true → has_rowid id row ≡ true → rowid row ≡ Int id
has_id id row int has =
    let own = int_is (rowid row) int in
    let tied : is_eq (int_cmp (id_in (rowid row)) id) ≡ true =
    ap is_eq (sym (value_cmp-Int (id_in (rowid row)) id)) ∙ ap (λ v. is_eq (value_cmp v (Int id))) (sym own) ∙ has in
    let same : id_in (rowid row) ≡ id = (Decides-int_eq (id_in (rowid row)) id).0 tied in
    own ∙ ap Int same

pub has_own_id : (row : Row) → is_int (rowid row) ≡ true → has_rowid (id_in (rowid row)) row ≡ true
has_own_id row int =
    ap (λ v. is_eq (value_cmp (rowid row) v)) (sym (int_is (rowid row) int)) ∙ ap is_eq (tied_itself value_cmp_total (rowid row))

pub has_permuted : {X : Type 0} (xs ys : List X) (x : X) → IsPermutation xs ys → Has ys x → Has xs x
has_permuted xs ys x same = all_has (Has xs) ys x (all-permutation (Has xs) xs ys same (all_from (Has xs) xs (λ e h. h)))

pub by_both : (a b : Bool) → (a ≡ true → b ≡ true) → (b ≡ true → a ≡ true) → a ≡ b
by_both true b there back = sym (there refl)
by_both false true there back = back refl
by_both false false there back = refl

-- Where the rows that share a number pass together, a statement that removes those that pass leaves the others.
pub deleted : (p : Row → Bool) (rows answer : List Row) → ((row : Row) → Has rows row → IsTrue (is_int (rowid row)))
    → ((a b : Row) → Has rows a → Has rows b → rowid a ≡ rowid b → p a ≡ p b)
    → IsPermutation (map (λ r. rowid r ∷ []) (filter p rows)) answer → without_all rows (ids_of answer) ≡ filter (λ r. not (p r)) rows
deleted p rows answer numbered apart shown =
    without_ids (ids_of answer) rows ∙ filter_same _ _ rows (λ r h. ap not (by_both _ _ (gone r h) (answered r h)))
  where
    show : Row → Row
    show r = rowid r ∷ []

    gone : (r : Row) → Has rows r → list_any (λ id. has_rowid id r) (ids_of answer) ≡ true → p r ≡ true
    gone r h any =
        let id = some_has (λ id. has_rowid id r) (ids_of answer) any in
        let outcome = has_mapped (λ (a : Row). id_in (rowid a)) answer id.0 id.1 in
        let row = has_mapped show (filter p rows) outcome.0 (has_permuted (map show (filter p rows)) answer outcome.0 shown outcome.1) in
        let kept = has_filtered p rows row.0 row.1 in
        let number : id.0 ≡ id_in (rowid row.0) = outcome.2 ∙ ap (λ (a : Row). id_in (rowid a)) row.2 in
        let one : rowid r ≡ Int id.0 = has_id id.0 r (numbered r h) id.2 in
        let other : rowid row.0 ≡ Int (id_in (rowid row.0)) = int_is (rowid row.0) (numbered row.0 kept.0) in
        apart r row.0 h kept.0 (one ∙ ap Int number ∙ sym other) ∙ kept.1

    answered : (r : Row) → Has rows r → p r ≡ true → list_any (λ id. has_rowid id r) (ids_of answer) ≡ true
    answered r h passes =
        let there = mapped_has show (filter p rows) r (has_kept p rows r h passes) in
        let outcome = has_permuted answer (map show (filter p rows)) (show r) (IsPermutation-sym _ _ shown) there in
        some_from (λ id. has_rowid id r) (ids_of answer) (id_in (rowid r))
        (mapped_has (λ (a : Row). id_in (rowid a)) answer (show r) outcome) (has_own_id r (numbered r h))

-- a row is put among those that have other numbers
pub put_apart : (new : Row) (rows : List Row) → is_taken rows new ≡ false → HasOneMore new rows (put_row new rows)
put_apart new [] free = record { before = []; after = []; was = refl; is = refl }
put_apart new (r ∷ rows) free = go (value_cmp (rowid r) (rowid new)) refl (or_parts _ _ free).0 (put_apart new rows (or_parts _ _ free).1)
  where
    go : (o : Ordering) → value_cmp (rowid r) (rowid new) ≡ o → is_eq (value_cmp (rowid r) (rowid new)) ≡ false
        → HasOneMore new rows (put_row new rows)
        → HasOneMore new (r ∷ rows) (match_ordering o (r ∷ put_row new rows) (new ∷ rows) (new ∷ r ∷ rows))
    go Less is other later =
        record { before = r ∷ later.before; after = later.after; was = ap (λ l. r ∷ l) later.was; is = ap (λ l. r ∷ l) later.is }
    go Equal is other later = absurd (true≢false (ap is_eq (sym is) ∙ other))
    go Greater is other later = record { before = []; after = r ∷ rows; was = refl; is = refl }

-- all that was there is there with one more row, and so is that
pub has_more : (before after : List Row) (new row : Row) → Has (before ++ after) row → Has (before ++ new ∷ after) row
has_more [] after new row h = inr h
has_more (r ∷ before) after new row (inl same) = inl same
has_more (r ∷ before) after new row (inr h) = inr (has_more before after new row h)

pub has_new : (before after : List Row) (new : Row) → Has (before ++ new ∷ after) new
has_new [] after new = inl refl
has_new (r ∷ before) after new = inr (has_new before after new)

-- fewer rows are apart too
pub own_filtered : (p : Row → Bool) (key : List ℕ) (rows : List Row) → AreOwn key rows → AreOwn key (filter p rows)
own_filtered p key rows own = record {
  numbered = λ row h. own.numbered row (has_filtered p rows row h).0;
  apart = λ a b ha hb. own.apart a b (has_filtered p rows a ha).0 (has_filtered p rows b hb).0;
}

pub tied_taken : (new : Row) (rows : List Row) (a : Row) → Has rows a → rowid a ≡ rowid new → is_taken rows new ≡ true
tied_taken new rows a h same =
    some_from (λ r. is_eq (value_cmp (rowid r) (rowid new))) rows a h
    (ap (λ v. is_eq (value_cmp v (rowid new))) same ∙ ap is_eq (tied_itself value_cmp_total (rowid new)))

-- so are the rows with one at a number that none has
pub own_put : (new : Row) (key : List ℕ) (rows : List Row) → IsTrue (is_int (rowid new)) → is_taken rows new ≡ false → AreOwn key rows
    → AreOwn key (put_row new rows)
own_put new key rows int free own = record {
  numbered =
      λ row h. elim (put_has new rows row h) [
        | inl same ↦ subst (λ r. IsTrue (is_int (rowid r))) (sym same) int
        | inr was ↦ own.numbered row was
      ];
  apart = λ a b ha hb tied. elim (put_has new rows a ha) [
    | inl one ↦ elim (put_has new rows b hb) [
      | inl other ↦ ap (λ r. map (column r) key) (one ∙ sym other)
      | inr was ↦ absurd (true≢false (sym (tied_taken new rows b was (sym tied ∙ ap rowid one)) ∙ free))
    ]
    | inr had ↦ elim (put_has new rows b hb) [
      | inl other ↦ absurd (true≢false (sym (tied_taken new rows a had (tied ∙ ap rowid other)) ∙ free))
      | inr was ↦ own.apart a b had was tied
    ]
  ];
}
