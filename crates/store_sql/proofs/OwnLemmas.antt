-- What the questions on a table tell of its rows.
use Rattle.std.proofs.Common.{◌≡◌, ◌↔◌, ◌⊎◌, inl, inr, ℕ, Bool, true, false, not, ◌&&◌, List, [], ◌∷◌, map, refl, sym, ap, ◌∙◌, true≢false, IsTrue}
use Rattle.std.proofs.lemmas.Bool.{and_parts, cases_Bool}
use Rattle.sqlite_value.specs.declared.value.Value.{Value}
use Rattle.sqlite_value.specs.Order.{Row, column}
use Rattle.sqlite_rules.specs.Lists.{Has}
use Rattle.sqlite_schema.specs.declared.schema.Kind.TheVariants as kind
use Rattle.sqlite_sql.specs.Term.{Term}
use Rattle.sqlite_trees.specs.Tree.{rowid}
use Rattle.sqlite_trees.specs.View.{is_int}
use Rattle.sqlite.specs.Effect.{Database}
use Rattle.sqlite.specs.Listing.{understood}
use Rattle.sqlite.proofs.Callers.{command_of}
use Rattle.store_sql_rows.specs.Schema.{desk_schema}
use Rattle.store_sql_rows.specs.Meanings.{passes}
use Rattle.store_sql_rows.specs.Ours.{AreOwn}
use Rattle.store_sql_rows.proofs.CellLemmas.{and_true}
use Rattle.store_sql_rows.proofs.TypeLemmas.{IsFilled}
use Rattle.store_sql.specs.Asking.{FindsNone, Joins}
use Rattle.store_sql.specs.Fitting.{AreNumbered}
use Rattle.store_sql.proofs.AnswerLemmas.{pair_none, pair_passes, plain_none}
use Rattle.store_sql.proofs.CellLemmas.{differ_reported, differs_reported, no_number, number_tied, shares, text_tied, tied_same, ties}
use Rattle.store_sql.proofs.Questions.{differ, differs, has_no_number, pairing, share, unnumbered}

not_false : (b : Bool) → not b ≡ false → b ≡ true
not_false true is = refl
not_false false is = absurd (true≢false is)

numbered_row : (row : Row) → passes (has_no_number ∷ []) [] row ≡ not (is_int (rowid row))
numbered_row row = and_true _ ∙ no_number (rowid row)

pub numbered_reported : (sql : List ℕ) (tree : ℕ) → command_of (understood desk_schema sql) ≡ unnumbered tree → (none : Bool) (db : Database)
    → FindsNone sql none db → IsTrue none ↔ AreNumbered (db.trees tree)
numbered_reported sql tree is none db h =
    let reported = plain_none sql tree is none db h in (
      λ t row has. not_false (is_int (rowid row)) (sym (numbered_row row) ∙ reported.0 t row has),
      λ numbered. reported.1 (λ row has. numbered_row row ∙ ap not (numbered row has)),
    )

-- ---- two rows that share a number

-- rows whose tie says whether two of them have one key
abbrev pub IsTie : (Row → Row → Bool) → List ℕ → List Row → Type 0
IsTie tie key rows = (a b : Row) → Has rows a → Has rows b → (tie a b ≡ true) ↔ (map (column a) key ≡ map (column b) key)

pair_row : (different : Term) (tie : Row → Row → Bool) → ((a b : Row) → pair_passes (different ∷ []) a b ≡ not (tie a b)) → (a b : Row)
    → pair_passes (share ∷ different ∷ []) a b ≡ false
    → is_int (rowid a) ≡ true → is_int (rowid b) ≡ true → rowid a ≡ rowid b → tie a b ≡ true
pair_row different tie is a b none ia ib same =
    let shared = (shares (rowid a) (rowid b) ia ib).1 same in
    not_false (tie a b) (sym (is a b) ∙ sym (ap (λ x. x && pair_passes (different ∷ []) a b) shared) ∙ none)

row_pair : (different : Term) (tie : Row → Row → Bool) → ((a b : Row) → pair_passes (different ∷ []) a b ≡ not (tie a b)) → (a b : Row)
    → is_int (rowid a) ≡ true → is_int (rowid b) ≡ true
    → (rowid a ≡ rowid b → tie a b ≡ true) → pair_passes (share ∷ different ∷ []) a b ≡ false
row_pair different tie is a b ia ib tied = elim (cases_Bool (pair_passes (share ∷ different ∷ []) a b)) [
  | inl passed ↦
      let parts = and_parts _ _ passed in
      let same = (shares (rowid a) (rowid b) ia ib).0 parts.0 in
      absurd (true≢false (sym parts.1 ∙ is a b ∙ ap not (tied same)))
  | inr none ↦ none
]

pub own_reported : (first second : List ℕ) (tree : ℕ) (different : Term) (tie : Row → Row → Bool) (key : List ℕ)
    → command_of (understood desk_schema first) ≡ unnumbered tree
    → command_of (understood desk_schema second) ≡ pairing tree different → ((a b : Row) → pair_passes (different ∷ []) a b ≡ not (tie a b))
    → (own : Bool) (db : Database) → IsTie tie key (db.trees tree) → Joins (FindsNone first) (FindsNone second) own db
    → IsTrue own ↔ AreOwn key (db.trees tree)
own_reported first second tree different tie key first_is second_is differing own db ties_key h = (there h.is, back h.is)
  where
    there : (FindsNone first true db × FindsNone second own db) ⊎ (FindsNone first false db × (own ≡ false)) → IsTrue own
        → AreOwn key (db.trees tree)
    there (inl both) reported =
        let numbered = (numbered_reported first tree first_is true db both.0).0 refl in
        let apart = (pair_none second tree different second_is own db both.1).0 reported in
        record {
          numbered = numbered;
          apart =
              λ a b ha hb same. (ties_key a b ha hb).0 (pair_row different tie differing a b (apart a b ha hb) (numbered a ha)
              (numbered b hb) same);
        }
    there (inr stopped) reported = absurd (true≢false (sym reported ∙ stopped.1))

    back : (FindsNone first true db × FindsNone second own db) ⊎ (FindsNone first false db × (own ≡ false))
        → AreOwn key (db.trees tree) → IsTrue own
    back (inl both) ours = (pair_none second tree different second_is own db both.1).1
        (λ a b ha hb. row_pair different tie differing a b (ours.numbered a ha) (ours.numbered b hb)
        (λ same. (ties_key a b ha hb).1 (ours.apart a b ha hb same)))
    back (inr stopped) ours = absurd (true≢false (sym ((numbered_reported first tree first_is false db stopped.0).1 ours.numbered)))

-- ---- keys of one column and of two

abbrev pub tie_one : Row → Row → Bool
tie_one a b = ties (column a 1) (column b 1)

abbrev pub tie_two : Row → Row → Bool
tie_two a b = ties (column a 1) (column b 1) && ties (column a 2) (column b 2)

pub one_differs : (a b : Row) → pair_passes (differs 1 ∷ []) a b ≡ not (tie_one a b)
one_differs a b = and_true _ ∙ differs_reported (column a 1) (column b 1)

pub two_differ : (a b : Row) → pair_passes (differ 1 2 ∷ []) a b ≡ not (tie_two a b)
two_differ a b = and_true _ ∙ differ_reported (column a 1) (column b 1) (column a 2) (column b 2)

-- cells of these rows that tie are the same
abbrev pub AreTied : ℕ → List Row → Type 0
AreTied at rows = (a b : Row) → Has rows a → Has rows b → ties (column a at) (column b at) ≡ true → column a at ≡ column b at

pub texts_tied : (at : ℕ) (rows : List Row) → ((row : Row) → Has rows row → IsFilled kind.Text (column row at)) → AreTied at rows
texts_tied at rows filled a b ha hb = text_tied (column a at) (column b at) (filled a ha) (filled b hb)

pub numbers_tied : (at : ℕ) (rows : List Row) → ((row : Row) → Has rows row → IsFilled kind.Integer (column row at)) → AreTied at rows
numbers_tied at rows filled a b ha hb = number_tied (column a at) (column b at) (filled a ha) (filled b hb)

first_same : (v w : Value) (vs ws : List Value) → v ∷ vs ≡ w ∷ ws → v ≡ w
first_same v w vs ws e = cc

rest_same : (v w : Value) (vs ws : List Value) → v ∷ vs ≡ w ∷ ws → vs ≡ ws
rest_same v w vs ws e = cc

pub one_key : (rows : List Row) → AreTied 1 rows → IsTie tie_one (1 ∷ []) rows
one_key rows tied a b ha hb =
    (λ is. ap (λ v. v ∷ []) (tied a b ha hb is), λ same. tied_same (column a 1) (column b 1) (first_same _ _ _ _ same))

pub two_key : (rows : List Row) → AreTied 1 rows → AreTied 2 rows → IsTie tie_two (1 ∷ 2 ∷ []) rows
two_key rows one two a b ha hb = (
  λ is. let parts = and_parts _ _ is in let p = one a b ha hb parts.0 in let q = two a b ha hb parts.1 in cc,
  λ same.
      let p = tied_same (column a 1) (column b 1) (first_same _ _ _ _ same) in
      let q = tied_same (column a 2) (column b 2) (first_same _ _ _ _ (rest_same _ _ _ _ same)) in
      rw (p, q) refl,
)
