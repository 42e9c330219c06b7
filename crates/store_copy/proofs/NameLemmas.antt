-- A table that is read name by name.
use Rattle.std.proofs.Common.{◌≡◌, ◌≢◌, ◌∙◌, ℕ, ◌+◌, ◌<◌, ◌==◌, ◌||◌, ◌++◌, Bool, true, false, cond, List, [], ◌∷◌, length, get_or, take, None, inl, inr, refl, sym, ap}
use Rattle.std.specs.List.{list_any}
use Rattle.std.specs.Str.{bytes_eq}
use Rattle.std.proofs.lemmas.Bool.{cases_Bool, false≢true}
use Rattle.std.proofs.lemmas.Bool.Decides.{Decides-eqb}
use Rattle.std.proofs.lemmas.List.Folds.{list_any_more}
use Rattle.std.proofs.lemmas.Slice.Eq.{bytes_eq-Decides}
use Rattle.points.specs.Texts.{Text}
use Rattle.store.proofs.ReadLemmas.{Reads-then, kept-read}
use Rattle.store.proofs.StoodLemmas.{none_any}
use Rattle.store.specs.Change.{with_each, with_next}
use Rattle.store.specs.Listed.{AreTexts}
use Rattle.store.specs.declared.change.NextNumber.{NextNumber}
use Rattle.store.specs.Standing.{Content, Reads, Standing}
use Rattle.store.specs.Tables.{Tables, no_tables}
use Rattle.store_copy.specs.Named.{at_names, next_over}

pub with_each-append : {Item Table : Type 0} (put_item : Item → Table → Table) (items more : List Item) (table : Table)
    → with_each put_item (items ++ more) table ≡ with_each put_item more (with_each put_item items table)
with_each-append put_item [] more table = refl
with_each-append put_item (item ∷ items) more table = with_each-append put_item items more (put_item item table)

-- one place more is filled, or the same again
pub merged : {A : Type 0} (over : A → A) (before here : Bool) (there none old now : A) → (here ≡ true → over there ≡ there)
    → (here ≡ true → over none ≡ there) → old ≡ cond before there none → now ≡ cond here (over old) old
    → now ≡ cond (before || here) there none
merged over true true there none old now again anew was is = is ∙ ap over was ∙ again refl
merged over true false there none old now again anew was is = is ∙ was
merged over false true there none old now again anew was is = is ∙ ap over was ∙ anew refl
merged over false false there none old now again anew was is = is ∙ was

-- what was put so far, of a store that is only read: of some names what stands in one of its tables
pub record ReadsNamed {A : Type 0} (first now : Standing) (put : Text → A) (names : List Text) (table : Tables → Text → A) (none : A) : Type 0 where
  pub reads : Reads None first now
  pub named : now.is_honest → (q : Text) → put q ≡ at_names names (table first.content.tables) none q

-- the same with one name more
pub read-step : {A : Type 0} (over : A → A → A) (none : A) → ((x : A) → over x x ≡ x) → ((x : A) → over x none ≡ x)
    → (table : Tables → Text → A) (first old new : Standing) (before now : Text → A) (names : List Text) (i : ℕ) (name : Text)
    → ReadsNamed first old before (take i names) table none → Reads None old new → i < length names → name ≡ get_or names i name
    → (new.is_honest → (q : Text) → now q ≡ cond (bytes_eq name q) (over (table old.content.tables name) (before q)) (before q))
    → ReadsNamed first new now (take (i + 1) names) table none
read-step over none again anew table first old new before now names i name so_far read within is here = record {
  reads = Reads-then None first old new so_far.reads read;
  named = λ honest q.
      let was = read.goes.honest honest in
      let had = table first.content.tables in
      let same : bytes_eq name q ≡ true → table old.content.tables name ≡ had q = λ e.
      ap (λ (content : Content). table content.tables name) (kept-read first old so_far.reads was)
      ∙ ap had ((bytes_eq-Decides name q).0 e) in
      merged (over (table old.content.tables name)) (list_any (λ n. bytes_eq n q) (take i names)) (bytes_eq name q) (had q) none (before q) (now q)
      (λ e. ap (λ x. over x (had q)) (same e) ∙ again (had q))
      (λ e. ap (λ x. over x none) (same e) ∙ anew (had q))
      (so_far.named was q) (here honest q)
      ∙ sym (ap (λ b. cond b (had q) none) (list_any_more (λ n. bytes_eq n q) names i name within
      ∙ ap (λ n. list_any (λ m. bytes_eq m q) (take i names) || bytes_eq n q) (sym is)));
}

-- the same of a table with more than one thing under a name, each under its key
pub record ReadsEach {K A : Type 0} (first now : Standing) (put : Text → K → A) (names : List Text) (table : Tables → Text → K → A)
    (none : A) : Type 0 where
  pub reads : Reads None first now
  pub named : now.is_honest → (q : Text) (k : K) → put q k ≡ at_names names (λ name. table first.content.tables name k) none q

pub each-step : {K A : Type 0} (over : A → A → A) (none : A) → ((x : A) → over x x ≡ x) → ((x : A) → over x none ≡ x)
    → (table : Tables → Text → K → A) (first old new : Standing) (before now : Text → K → A) (names : List Text) (i : ℕ) (name : Text)
    → ReadsEach first old before (take i names) table none → Reads None old new → i < length names → name ≡ get_or names i name
    → (new.is_honest → (q : Text) (k : K)
    → now q k ≡ cond (bytes_eq name q) (over (table old.content.tables name k) (before q k)) (before q k))
    → ReadsEach first new now (take (i + 1) names) table none
each-step over none again anew table first old new before now names i name so_far read within is here = record {
  reads = Reads-then None first old new so_far.reads read;
  named = λ honest q k. (read-step over none again anew (λ tables n. table tables n k) first old new (λ r. before r k) (λ r. now r k)
      names i name (record { reads = so_far.reads; named = λ was r. so_far.named was r k }) read within is (λ was r. here was r k)).named honest q;
}

-- where the names are those that the table has, it is the whole table
pub names-whole : {A : Type 0} (holds : Text → Type 0) (names : List Text) → AreTexts holds names → (table : Text → A) (none : A)
    → (q : Text) → ((holds q → ⊥) → table q ≡ none) → at_names names table none q ≡ table q
names-whole holds names are table none q empty = elim (cases_Bool (list_any (λ n. bytes_eq n q) names)) [
  | inl listed ↦ ap (λ b. cond b (table q) none) listed
  | inr other ↦
      ap (λ b. cond b (table q) none) other
      ∙ sym (empty (λ here. false≢true (sym (none_any (λ n. bytes_eq n q) names other q ((are.each q).1 here)) ∙ (bytes_eq-Decides q q).1 refl)))
]

-- ---- next numbers

pub next_over-again : (x : ℕ) → next_over x x ≡ x
next_over-again x = by (x == 1)
  where
    by : (b : Bool) → cond b x x ≡ x
    by true = refl
    by false = refl

pub next_over-anew : (x : ℕ) → next_over x 1 ≡ x
next_over-anew x = elim (cases_Bool (x == 1)) [
  | inl one ↦ ap (λ b. cond b 1 x) one ∙ sym ((Decides-eqb x 1).0 one)
  | inr other ↦ ap (λ b. cond b 1 x) other
]

-- a next number more
pub next-more : (items : List NextNumber) (panel : Text) (next : ℕ) (q : Text) → next ≢ 1
    → with_each with_next (items ++ record { panel = panel; next = next } ∷ []) no_tables.next q
    ≡ cond (bytes_eq panel q) (next_over next (with_each with_next items no_tables.next q)) (with_each with_next items no_tables.next q)
next-more items panel next q more =
    let old = with_each with_next items no_tables.next q in
    ap (λ (f : Text → ℕ). f q) (with_each-append with_next items (record { panel = panel; next = next } ∷ []) no_tables.next)
    ∙ elim (cases_Bool (next == 1)) [
      | inl one ↦ absurd (more ((Decides-eqb next 1).0 one))
      | inr other ↦ ap (λ n. cond (bytes_eq panel q) n old) (sym (ap (λ b. cond b old next) other))
    ]
