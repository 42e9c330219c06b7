-- What the answer of the query on the next number of a panel tells.
use Rattle.std.proofs.Common.{◌≡◌, ◌≤◌, ◌<◌, ◌&&◌, ◌==◌, ℕ, pos, negsuc, List, ◌∷◌, ◌⊎◌, inl, inr, Option, Some, None, Result, Ok, Err, IfOk, IfErr, IfSome, filter, Bool, true, false, not, nat_lt, nat_le, Contains, ◌+◌, ◌-◌, ◌++◌, zero, suc, slice_get, drop, option_and_then, is_some, refl, sym, ap, ◌∙◌, subst, arith, true≢false, int_cmp, []}
use Rattle.std.specs.List.{list_all}
use Rattle.std.specs.Result.{result_ok}
use Rattle.std.specs.Ordering.{is_lt}
use Rattle.std.proofs.lemmas.Bool.{and_from, and_parts, both_ways, cases_Bool, cases_order, eqb-true, eq-eqb, le-leb, leb-false, leb-true, lt-ltb, ltb-false, ltb-true}
use Rattle.points.specs.declared.numbered_row.NumberedRow.{NumberedRow}
use Rattle.points.specs.Name.{IsName}
use Rattle.points.specs.Run.{IsRun, Rows, rows_between, rows_from}
use Rattle.sqlite_rules.specs.Lists.{Has}
use Rattle.sqlite_rules.proofs.ListLemmas.{contains_had, has_filtered, has_kept}
use Rattle.sqlite_value.specs.declared.value.Value.{Value}
use Rattle.sqlite_value.specs.declared.value.Value.TheVariants.{Blob, Int, Null, Real, Text}
use Rattle.sqlite_value.specs.Order.{Row, column, value_cmp}
use Rattle.sqlite_value.proofs.OrderLemmas.{value_cmp-Int}
use Rattle.store_sql_rows.specs.Looking.{FindsLeast, is_from}
use Rattle.store.specs.declared.change.KeptRow.{KeptRow}
use Rattle.store.specs.Change.{with_row}
use Rattle.store.proofs.RowLemmas.{next-none, next-row}
use Rattle.std.specs.Str.{bytes_eq}
use Rattle.store_sql_rows.specs.Cells.{count_in, is_count, is_text, name_in}
use Rattle.store_sql_rows.specs.Rows.{command_said, of_command}
use Rattle.store_sql_rows.specs.Stored.{Kept, can_stand, tables_in}
use Rattle.store_sql_rows.proofs.ReadCellLemmas.{command-parts, count-cell, text-same}
use Rattle.store_sql_rows.proofs.StoredRowLemmas.{here-row, no-row}
use Rattle.store_sql_rows.proofs.TableLemmas.{row-at}
use Rattle.store_sql_rows.proofs.StoredLemmas.{no_command}
use Rattle.store_sql_rows.specs.Broken.{cannot_stand_in}
use Rattle.store_sql_rows.specs.Rows.{same_command}
use Rattle.store_sql_rows.specs.declared.read_fault.ReadFault.{ReadFault}
use Rattle.store_sql_rows.proofs.BrokenLemmas.{none_stands}
use Rattle.store.specs.Asked.{IsBrokenRun}
use Rattle.store.specs.Asked.Asked.{RowOf}
use Rattle.store.specs.Change.{IsNumber}
use Rattle.store_sql.specs.Stepping.{AllStand, AreNone, AreSoFar, Ends, HaveStood, IsBroken, IsBrokenNext, IsNear, IsNearAt, IsNearNumber, IsNextNumber, IsNextOf, IsNoRow, IsNumberAt}
use Rattle.store_sql.proofs.ReadCells.{count_here, text_here}
use Rattle.store_sql.proofs.ParsedLemmas.{count_given}

-- ---- lists and cells

pub nothing_passes : (test : Row → Bool) (rows : List Row) → ((row : Row) → Has rows row → test row ≡ true → ⊥) → filter test rows ≡ []
nothing_passes test [] nope = refl
nothing_passes test (row ∷ rows) nope =
    elim (cases_Bool (test row)) [
      | inl is ↦ absurd (nope row (inl refl) is)
      | inr is ↦ rw is (nothing_passes test rows (λ r h. nope r (inr h)))
    ]

pub passes_nothing : (test : Row → Bool) (rows : List Row) (row : Row) → filter test rows ≡ [] → Has rows row → test row ≡ true → ⊥
passes_nothing test rows row none h is = subst (λ l. Has l row) none (has_kept test rows row h is)

is_count-here : (count : ℕ) (cell : Value) → cell ≡ Int (pos count) → is_count count cell ≡ true
is_count-here count cell is = rw is (eq-eqb count count refl)

not_false : (b : Bool) → not b ≡ false → b ≡ true
not_false true is = refl
not_false false is = absurd (true≢false is)

pub not_both : {X : Type 0} (o : Option X) (x : X) → o ≡ Some x → o ≡ None → ⊥
not_both None x is none = absurd (let h : ⊥ = cc in h)
not_both (Some y) x is none = absurd (let h : ⊥ = cc in h)

from_here : (from count : ℕ) → from ≤ count → nat_lt count from ≡ false
from_here from count more = elim (cases_Bool (nat_lt count from)) [
  | inl less ↦ let below : count < from = ltb-true count from less in absurd (omega (arith, more, below))
  | inr is ↦ is
]

is_from-count : (from count : ℕ) (cell : Value) → cell ≡ Int (pos count) → from ≤ count → is_from from cell ≡ true
is_from-count from count cell is more = rw (is, from_here from count more) refl

pub not_less : (m n : ℕ) → is_lt (value_cmp (Int (pos m)) (Int (pos n))) ≡ false → m < n → ⊥
not_less m n is less =
    let cmp : is_lt (int_cmp (pos m) (pos n)) ≡ false = ap is_lt (sym (value_cmp-Int (pos m) (pos n))) ∙ is in
    let below : nat_lt m n ≡ true = lt-ltb m n less in
    true≢false (rw below at cmp)

-- ---- rows

-- a row under a number is one of the rows
pub count_of_row : (panel : List ℕ) (kept : Kept) (from n : ℕ) (row : Row) → of_command panel n row ≡ true → from ≤ n
    → (is_text panel (column row 1) && is_from from (column row 2)) ≡ true
count_of_row panel kept from n row is more =
    let both = and_parts (is_text panel (column row 1)) (is_count n (column row 2)) is in
    and_from _ _ both.0 (is_from-count from n (column row 2) (count_here n (column row 2) both.1) more)

abbrev pub is_picked : List ℕ → ℕ → Row → Bool
is_picked panel from row = is_text panel (column row 1) && is_from from (column row 2)

pub number_none : (panel : List ℕ) (kept : Kept) (from : ℕ) → filter (is_picked panel from) kept.command ≡ [] → (n : ℕ) → from ≤ n
    → IsNoRow kept panel n
number_none panel kept from none n more =
    nothing_passes (of_command panel n) kept.command
    (λ row h is. passes_nothing (is_picked panel from) kept.command row none h (count_of_row panel kept from n row is more))

row_stays : (panel : List ℕ) (number : ℕ) (y : KeptRow) (t : List ℕ → Rows) → is_some (t panel number) ≡ true
    → is_some (with_row y t panel number) ≡ true
row_stays panel number y t is = elim (cases_Bool (bytes_eq y.panel panel && y.number == number)) [
  | inl at ↦ rw at refl
  | inr off ↦ rw off is
]

row_shows : (y : KeptRow) (t : List ℕ → Rows) → is_some (with_row y t y.panel y.number) ≡ true
row_shows y t = rw (text-same y.panel y.panel refl, eq-eqb y.number y.number refl) refl

pub here_command : (kept : Kept) (row : Row) (item : KeptRow) → Contains kept.command row → command_said row ≡ Some item
    → is_some ((tables_in kept).row item.panel item.number) ≡ true
here_command kept row item here says =
    here-row command_said with_row (λ t. is_some (t item.panel item.number))
    (λ y t is. row_stays item.panel item.number y t is)
    item (λ t. row_shows item t) kept.command row says here.0 here.1 here.2 (λ panel number. None)

-- where a row is kept that can stand, the tables have it
pub row_there : (kept : Kept) (panel : List ℕ) (number : ℕ) → (IsNoRow kept panel number → ⊥)
    → cannot_stand_in kept (RowOf panel number) ≡ false → (tables_in kept).row panel number ≡ None → ⊥
row_there kept panel number there stands none = of (filter (of_command panel number) kept.command) refl
  where
    of : (rows : List Row) → filter (of_command panel number) kept.command ≡ rows → ⊥
    of [] is = there is
    of (row ∷ more) is =
        let had = has_filtered (of_command panel number) kept.command row (subst (λ l. Has l row) (sym is) (inl refl)) in
        let both = and_parts (is_text panel (column row 1)) (is_count number (column row 2)) had.1 in
        let says : is_some (command_said row) ≡ true = said row more is in
        reported (command_said row) refl says had.0 (text_here panel (column row 1) both.0) (count_here number (column row 2) both.1)
      where
        said : (row : Row) (more : List Row) → filter (of_command panel number) kept.command ≡ row ∷ more
            → is_some (command_said row) ≡ true
        said row more is =
            let whole : can_stand command_said same_command (row ∷ more) ≡ true =
            sym (ap (can_stand command_said same_command) is)
            ∙ not_false (can_stand command_said same_command (filter (of_command panel number) kept.command)) stands in
            (and_parts (is_some (command_said row)) _ (and_parts (list_all (λ r. is_some (command_said r)) (row ∷ more)) _ whole).0).0

        reported : (o : Option KeptRow) → command_said row ≡ o → is_some (command_said row) ≡ true → Has kept.command row
            → column row 1 ≡ Text panel → column row 2 ≡ Int (pos number) → ⊥
        reported None says some h name count = true≢false (sym some ∙ ap is_some says)
        reported (Some item) says some h name count =
            let parts = command-parts row item says in
            let texts : Text item.panel ≡ Text panel = sym parts.0 ∙ name in
            let counts : Int (pos item.number) ≡ Int (pos number) = sym parts.1 ∙ count in
            let p : item.panel ≡ panel = cc in
            let n : item.number ≡ number = cc in
            let is = here_command kept row item (contains_had kept.command row h) says in
            both_ways (is_some ((tables_in kept).row panel number)) (ap is_some none)
            (subst (λ q. is_some ((tables_in kept).row q number) ≡ true) p
            (subst (λ m. is_some ((tables_in kept).row item.panel m) ≡ true) n is))

-- ---- what is reported

module _ (panel : List ℕ) (from : ℕ) (kept : Kept) (answer : List Row) (named : IsName panel)
    (found : FindsLeast (is_picked panel from) 2 kept.command answer) where
  pub reported_none : answer ≡ [] → IsNextNumber kept panel from None
  reported_none none n more is = number_none panel kept from (found.none none) n more

  above : (number : ℕ) → not (nat_lt number from) ≡ true → from ≤ number
  above number passes = elim (cases_Bool (nat_lt number from)) [
    | inl less ↦ absurd (true≢false (sym passes ∙ ap not less))
    | inr is ↦ ltb-false number from is
  ]

  -- nothing is kept from the least number on and below the one that is found
  between : (shown : Row) (more : List Row) (number : ℕ) → answer ≡ shown ∷ more → column shown 0 ≡ Int (pos number) → (n : ℕ) → from ≤ n
      → n < number → IsNoRow kept panel n
  between shown more number is cell n low high =
      let it = found.some shown more is in
      let here : column it.0 2 ≡ Int (pos number) = sym (ap (λ r. column r 0) it.3) ∙ cell in
      nothing_passes (of_command panel n) kept.command (λ row h passes.
      let lowest = it.5 row h (count_of_row panel kept from n row passes low) in
      let other = count_here n (column row 2) (and_parts (is_text panel (column row 1)) (is_count n (column row 2)) passes).1 in
      not_less n number (subst (λ v. is_lt (value_cmp v (Int (pos number))) ≡ false) other
      (subst (λ v. is_lt (value_cmp (column row 2) v) ≡ false) here lowest)) high)

  pub reported_some : (shown : Row) (more : List Row) (number : ℕ) → answer ≡ shown ∷ more
      → count_in 1 1_000_000_000_000 (column shown 0) ≡ Some number → IsNumberAt kept panel from number
  reported_some shown more number is reads =
      let it = found.some shown more is in
      let both = and_parts (is_text panel (column it.0 1)) (is_from from (column it.0 2)) it.2 in
      let cell : column shown 0 ≡ column it.0 2 = ap (λ r. column r 0) it.3 in
      let count = count-cell 1 1_000_000_000_000 (column it.0 2) number (ap (count_in 1 1_000_000_000_000) (sym cell) ∙ reads) in
      record {
        is = record { least = count.least-is; greatest = count.greatest-is };
        after = above number (ap (is_from from) (sym count.cell) ∙ both.1);
        between = λ n low high at. between shown more number is (cell ∙ count.cell) n low high;
        here =
            λ none. passes_nothing (of_command panel number) kept.command it.0 none it.1
            (and_from _ _ both.0 (is_count-here number (column it.0 2) count.cell));
      }

  -- the least number is past those of commands
  past : (row : Row) → is_from from (column row 2) ≡ true → (v : Value) → column row 2 ≡ v → 1 ≤ from
      → count_in 1 1_000_000_000_000 v ≡ None → (number : ℕ) × (column row 2 ≡ Int (pos number)) × (1_000_000_000_000 < number)
  past row passes (Int (pos n)) is low none = (
    n,
    is,
    elim (cases_Bool (nat_lt 1_000_000_000_000 n)) [
      | inl far ↦ ltb-true 1_000_000_000_000 n far
      | inr near ↦
          let high : n ≤ 1_000_000_000_000 = ltb-false 1_000_000_000_000 n near in
          let least : from ≤ n = above n (ap (is_from from) (sym is) ∙ passes) in
          let up : 1 ≤ n = omega (arith, low, least) in
          absurd (not_both (count_in 1 1_000_000_000_000 (Int (pos n))) n (count_given 1 1_000_000_000_000 n up high) none)
    ],
  )
  past row passes (Int (negsuc n)) is low none = absurd (true≢false (sym passes ∙ ap (is_from from) is))
  past row passes Null is low none = absurd (true≢false (sym passes ∙ ap (is_from from) is))
  past row passes (Text t) is low none = absurd (true≢false (sym passes ∙ ap (is_from from) is))
  past row passes (Real x) is low none = absurd (true≢false (sym passes ∙ ap (is_from from) is))
  past row passes (Blob b) is low none = absurd (true≢false (sym passes ∙ ap (is_from from) is))

  reported_past : (shown : Row) (more : List Row) → 1 ≤ from → answer ≡ shown ∷ more → count_in 1 1_000_000_000_000 (column shown 0) ≡ None
      → IsNextNumber kept panel from None
  reported_past shown more low is reads n least number =
      let it = found.some shown more is in
      let both = and_parts (is_text panel (column it.0 1)) (is_from from (column it.0 2)) it.2 in
      let cell : column shown 0 ≡ column it.0 2 = ap (λ r. column r 0) it.3 in
      let far = past it.0 both.1 (column it.0 2) refl low (ap (count_in 1 1_000_000_000_000) (sym cell) ∙ reads) in
      between shown more far.0 is (cell ∙ far.1) n least (omega (arith, far.2, number.greatest))

  pub reported_ok : (r : Result ℕ ReadFault) (shown : Row) (more : List Row) → 1 ≤ from → answer ≡ shown ∷ more
      → IfOk r (λ x. count_in 1 1_000_000_000_000 (column shown 0) ≡ Some x)
      → IfErr r (λ _. count_in 1 1_000_000_000_000 (column shown 0) ≡ None) → IsNextNumber kept panel from (result_ok r)
  reported_ok (Ok x) shown more low is reads none = reported_some shown more x is reads
  reported_ok (Err e) shown more low is reads none = reported_past shown more low is none

-- a number that is read is one of a command's
pub number_is : (r : Result ℕ ReadFault) (cell : Value) → IfOk r (λ x. count_in 1 1_000_000_000_000 cell ≡ Some x)
    → IfSome (result_ok r) IsNumber
number_is (Err e) cell reads = tt
number_is (Ok x) cell reads =
    let count = count-cell 1 1_000_000_000_000 cell x reads in record { least = count.least-is; greatest = count.greatest-is }

-- ---- out of the numbers of commands

count_out : (number : ℕ) → (1 ≤ number → number ≤ 1_000_000_000_000 → ⊥) → count_in 1 1_000_000_000_000 (Int (pos number)) ≡ None
count_out number outside = elim (cases_Bool (nat_le 1 number && nat_le number 1_000_000_000_000)) [
  | inl inside ↦
      let both = and_parts (nat_le 1 number) (nat_le number 1_000_000_000_000) inside in
      absurd (outside (leb-true 1 number both.0) (leb-true number 1_000_000_000_000 both.1))
  | inr off ↦ rw off refl
]

none_then : (o : Option (List ℕ)) → option_and_then {U = KeptRow} (λ name. None) o ≡ None
none_then None = refl
none_then (Some name) = refl

no_number : (row : Row) → count_in 1 1_000_000_000_000 (column row 2) ≡ None → command_said row ≡ None
no_number row none = rw none (none_then (name_in (column row 1)))

and_no : (a b : Bool) → b ≡ false → (a && b) ≡ false
and_no true b is = is
and_no false b is = refl

pub none_picked : (rows : List Row) → filter (λ row. false) rows ≡ []
none_picked [] = refl
none_picked (row ∷ rows) = none_picked rows

pub no_row_outside : (panel : List ℕ) (number : ℕ) (kept : Kept) → (1 ≤ number → number ≤ 1_000_000_000_000 → ⊥)
    → (tables_in kept).row panel number ≡ None
no_row_outside panel number kept outside =
    no-row command_said with_row (λ name n. None) (λ t. t panel number) (λ row. false) (λ y. bytes_eq panel y.panel && number == y.number)
    (λ row item says. sym (and_no (bytes_eq panel item.panel) (number == item.number) (other row item says (number == item.number) refl)))
    (λ y t apart. row-at panel number y t false apart)
    kept.command (none_picked kept.command)
  where
    other : (row : Row) (item : KeptRow) → command_said row ≡ Some item → (b : Bool) → (number == item.number) ≡ b → b ≡ false
    other row item says false is = refl
    other row item says true is =
        let same : number ≡ item.number = eqb-true number item.number is in
        let cell : column row 2 ≡ Int (pos number) = (command-parts row item says).1 ∙ ap (λ n. Int (pos n)) (sym same) in
        absurd (not_both (command_said row) item says (no_number row (ap (count_in 1 1_000_000_000_000) cell ∙ count_out number outside)))

-- where nothing is kept under a number, the tables have nothing there
pub no_row : (kept : Kept) (panel : List ℕ) (number : ℕ) → (IsNumber number → IsNoRow kept panel number)
    → (tables_in kept).row panel number ≡ None
no_row kept panel number none = elim (cases_Bool (nat_le 1 number && nat_le number 1_000_000_000_000)) [
  | inl inside ↦
      let both = and_parts (nat_le 1 number) (nat_le number 1_000_000_000_000) inside in
      no_command panel number kept
      (none (record { least = leb-true 1 number both.0; greatest = leb-true number 1_000_000_000_000 both.1 }))
  | inr off ↦ no_row_outside panel number kept (λ low high. true≢false (sym (and_from _ _ (le-leb 1 number low)
      (le-leb number 1_000_000_000_000 high)) ∙ off))
]

-- and no row that cannot stand
pub none_broken : (kept : Kept) (panel : List ℕ) (number : ℕ) → IsNoRow kept panel number → IsBroken kept panel number → ⊥
none_broken kept panel number none broken =
    true≢false (sym broken.1 ∙ none_stands command_said same_command (of_command panel number) kept.command none)

pub ends_beyond : (panel : List ℕ) (kept : Kept) (from upto : ℕ) → 1_000_000_000_000 < from → Ends ((tables_in kept).row panel) from upto
ends_beyond panel kept from upto past = record {
  below = λ n more less. no_row kept panel n (λ is. absurd (omega (arith, past, more, is.greatest)));
  at = no_row kept panel from (λ is. absurd (omega (arith, past, is.greatest)));
}

pub stood_beyond : (panel : List ℕ) (kept : Kept) (from upto : ℕ) → 1_000_000_000_000 < from → HaveStood kept panel from upto None
stood_beyond panel kept from upto past n more near broken = absurd (omega (arith, past, more, broken.0.greatest))

-- ---- the next number of a run

pub near_none : (kept : Kept) (panel : List ℕ) (from upto : ℕ) → IsNearNumber kept panel from upto None
    → Ends ((tables_in kept).row panel) from upto
near_none kept panel from upto none = record {
  below = λ n more less. no_row kept panel n (none n more (inl less));
  at = no_row kept panel from (none from (omega arith) (inr refl));
}

pub stood_none : (kept : Kept) (panel : List ℕ) (from upto : ℕ) → IsNearNumber kept panel from upto None
    → HaveStood kept panel from upto None
stood_none kept panel from upto none n more near broken = none_broken kept panel n (none n more near broken.0) broken

pub near_some : (kept : Kept) (panel : List ℕ) (from upto number : ℕ) (found : NumberedRow) → IsNearAt kept panel from upto number
    → found.number ≡ number → (tables_in kept).row panel number ≡ Some found.row
    → IsNextOf ((tables_in kept).row panel) from upto found
near_some kept panel from upto number found at same is = record {
  row = record {
    after = subst (λ n. from ≤ n) (sym same) at.at.after;
    between = λ n low high. no_row kept panel n (at.at.between n low (subst (λ m. n < m) same high));
    here = subst (λ n. (tables_in kept).row panel n ≡ Some found.row) (sym same) is;
    greatest = subst (λ n. n ≤ 1_000_000_000_000) (sym same) at.at.is.greatest;
  };
  near = subst (IsNear from upto) (sym same) at.near;
}

pub stood_some : (kept : Kept) (panel : List ℕ) (from upto number : ℕ) (found : NumberedRow) → IsNearAt kept panel from upto number
    → found.number ≡ number → (IsBroken kept panel number → ⊥) → HaveStood kept panel from upto (Some found)
stood_some kept panel from upto number found at same stands n low high broken = elim (cases_order n number) [
  | inl is ↦ stands (subst (IsBroken kept panel) is broken)
  | inr apart ↦ elim apart [
    | inl less ↦ none_broken kept panel n (at.at.between n low less broken.0) broken
    | inr more ↦ absurd (omega (arith, more, high, same))
  ]
]

pub unless_far : (kept : Kept) (panel : List ℕ) (from upto number : ℕ) → IsNumberAt kept panel from number → upto < number
    → (number ≡ from → ⊥) → IsNearNumber kept panel from upto None
unless_far kept panel from upto number at past apart n more near is = elim near [
  | inl low ↦ at.between n more (omega (arith, low, past)) is
  | inr same ↦ elim (cases_order number from) [
    | inl equal ↦ absurd (apart equal)
    | inr other ↦ elim other [
      | inl less ↦ absurd (let after = at.after in omega (arith, less, after))
      | inr above ↦ at.between n more (omega (arith, same, above)) is
    ]
  ]
]

-- from a number on that is 1 at least
pub from_least : (kept : Kept) (panel : List ℕ) (from least : ℕ) (found : Option ℕ) → from ≤ least
    → ((n : ℕ) → from ≤ n → 1 ≤ n → least ≤ n) → IsNextNumber kept panel least found → IsNextNumber kept panel from found
from_least kept panel from least None low up none = λ n more is. none n (up n more is.least) is
from_least kept panel from least (Some number) low up at = record {
  is = at.is;
  after = (let after = at.after in omega (arith, low, after));
  between = λ n more less is. at.between n (up n more is.least) less is;
  here = at.here;
}

-- ---- a run

still : (rows : Rows) (from number count : ℕ) → from ≤ number → ((n : ℕ) → number ≤ n → n < number + count → rows n ≡ None)
    → rows_between rows from (number + count) ≡ rows_between rows from number
still rows from number zero ordered none = let same : number + 0 ≡ number = omega arith in ap (rows_between rows from) same
still rows from number (suc count) ordered none =
    let more : number + suc count ≡ number + count + 1 = omega arith in
    let here : rows (number + count) ≡ None = none (number + count) (omega arith) (omega arith) in
    ap (rows_between rows from) more
    ∙ sym (next-none rows from (number + count) (rows_between rows from number) (omega (arith, ordered))
    (sym (still rows from number count ordered (λ n low high. none n low (omega (arith, high))))) here)

pub still_between : (rows : Rows) (from number end : ℕ) → from ≤ number → number ≤ end → AreNone rows number end
    → rows_between rows from end ≡ rows_between rows from number
still_between rows from number end ordered up none =
    let all : number + (end - number) ≡ end = omega (arith, up) in
    ap (rows_between rows from) (sym all)
    ∙ still rows from number (end - number) ordered (λ n low high. none n low (omega (arith, high, up)))

pub so_far_none : (rows : Rows) (from upto : ℕ) (run : List NumberedRow) → from ≤ upto → run ≡ [] → AreSoFar rows from upto from run
so_far_none rows from upto run ordered none =
    let zero_is : from - from ≡ 0 = omega arith in
    record {
      ordered = omega arith;
      are = none ∙ sym (ap (λ c. rows_from c rows from) zero_is);
      unbroken = λ n low high. absurd (omega (arith, ordered, low, high));
    }

pub so_far_more : (rows : Rows) (from upto number : ℕ) (found : NumberedRow) (run now : List NumberedRow)
    → AreSoFar rows from upto number run → IsNextOf rows number upto found
    → now ≡ run ++ found ∷ [] → AreSoFar rows from upto (found.number + 1) now
so_far_more rows from upto number found run now far next is =
    let after : number ≤ found.number = next.row.after in
    let start : from ≤ number = far.ordered in
    record {
      ordered = omega (arith, after, start);
      are =
          next-row rows from found.number found.row run now (omega (arith, after, start))
          (far.are ∙ sym (still_between rows from number found.number start after next.row.between)) next.row.here is;
      unbroken = λ n low high. elim (cases_order n found.number) [
        | inl same ↦ ap (λ m. is_some (rows m)) same ∙ ap is_some next.row.here
        | inr apart ↦ elim apart [
          | inl lower ↦ elim next.near [
            | inl near ↦ absurd (omega (arith, near, low, lower))
            | inr joined ↦ far.unbroken n low (omega (arith, joined, lower))
          ]
          | inr higher ↦ absurd (omega (arith, high, higher))
        ]
      ];
    }

pub run_ends : (rows : Rows) (from upto number : ℕ) (run : List NumberedRow) → AreSoFar rows from upto number run → Ends rows number upto
    → IsRun rows from upto run
run_ends rows from upto number run far ends = elim (cases_Bool (nat_lt number upto)) [
  | inl below ↦
      let less : number < upto = ltb-true number upto below in
      record {
        end = upto;
        reaches = omega arith;
        unbroken = λ n low high. absurd (omega (arith, low, high));
        gap = ends.below upto (omega (arith, less)) (omega arith);
        is_between =
            far.are ∙ sym (still_between rows from number upto far.ordered (omega (arith, less))
            (λ n low high. ends.below n low (omega (arith, high))));
      }
  | inr above ↦
      let more : upto ≤ number = ltb-false number upto above in
      record { end = number; reaches = more; unbroken = far.unbroken; gap = ends.at; is_between = far.are }
]

pub stood_start : (kept : Kept) (panel : List ℕ) (from : ℕ) → AllStand kept panel from from
stood_start kept panel from n low high broken = absurd (omega (arith, low, high))

pub stood_more : (kept : Kept) (panel : List ℕ) (from number : ℕ) (upto : ℕ) (found : NumberedRow) → AllStand kept panel from number
    → HaveStood kept panel number upto (Some found) → AllStand kept panel from (found.number + 1)
stood_more kept panel from number upto found far next n low high broken = elim (cases_Bool (nat_lt n number)) [
  | inl less ↦ far n low (ltb-true n number less) broken
  | inr more ↦ next n (ltb-false n number more) high broken
]

-- the numbers that a run asks for were looked at once it ends
pub stood_run : (kept : Kept) (panel : List ℕ) (from upto number : ℕ) → AllStand kept panel from number
    → Ends ((tables_in kept).row panel) number upto → HaveStood kept panel number upto None
    → IsBrokenRun (cannot_stand_in kept) ((tables_in kept).row panel) panel from upto → ⊥
stood_run kept panel from upto number far ends none broken = elim (cases_Bool (nat_lt broken.0 number)) [
  | inl less ↦ far broken.0 broken.1.after (ltb-true broken.0 number less) broken.2
  | inr more ↦ none broken.0 (ltb-false broken.0 number more) (of (ltb-false broken.0 number more)) broken.2
]
  where
    gone : (n : ℕ) → (tables_in kept).row panel n ≡ None → is_some ((tables_in kept).row panel n) ≡ true → ⊥
    gone n none some = true≢false (sym some ∙ ap is_some none)

    -- past the greater of `upto` and the number, a number before it has no row
    past : upto < broken.0 → number < broken.0
        → ((before : ℕ) → upto ≤ before → before < broken.0 → is_some ((tables_in kept).row panel before) ≡ true) → ⊥
    past high far rows = elim (cases_Bool (nat_lt number upto)) [
      | inl below ↦
          let less : number < upto = ltb-true number upto below in
          gone upto (ends.below upto (omega (arith, less)) (omega arith)) (rows upto (omega arith) high)
      | inr above ↦ gone number ends.at (rows number (ltb-false number upto above) far)
    ]

    of : number ≤ broken.0 → IsNear number upto broken.0
    of least = elim (cases_Bool (nat_le broken.0 upto)) [
      | inl low ↦ inl (leb-true broken.0 upto low)
      | inr high ↦ elim (cases_order broken.0 number) [
        | inl same ↦ inr same
        | inr apart ↦ elim apart [
          | inl less ↦ absurd (omega (arith, less, least))
          | inr far ↦ elim broken.1.near [
            | inl near ↦ absurd (let over = leb-false broken.0 upto high in omega (arith, near, over))
            | inr rows ↦ absurd (past (leb-false broken.0 upto high) far rows)
          ]
        ]
      ]
    ]

-- a row that cannot stand is one that the run asks for
pub run_broken : (kept : Kept) (panel : List ℕ) (from upto number : ℕ) (run : List NumberedRow)
    → AreSoFar ((tables_in kept).row panel) from upto number run → IsBrokenNext kept panel number upto
    → IsBrokenRun (cannot_stand_in kept) ((tables_in kept).row panel) panel from upto
run_broken kept panel from upto number run far next = (
  next.number,
  record { after = (let start = far.ordered in let after = next.after in omega (arith, start, after)); near = of next.near },
  next.broken,
)
  where
    of : IsNear number upto next.number
        → (next.number < upto) ⊎ ((before : ℕ) → upto ≤ before → before < next.number
        → is_some ((tables_in kept).row panel before) ≡ true)
    of (inl low) = elim (cases_Bool (nat_lt next.number upto)) [
      | inl less ↦ inl (ltb-true next.number upto less)
      | inr more ↦ inr (λ before up down. absurd (let equal = ltb-false next.number upto more in omega (arith, up, down, low, equal)))
    ]
    of (inr same) = inr (λ before up down. far.unbroken before up (subst (λ n. before < n) same down))

pub first_none : (rows : List Row) → slice_get rows 0 ≡ None → rows ≡ []
first_none [] none = refl
first_none (row ∷ rows) none = absurd (let h : ⊥ = cc in h)

pub first_some : (rows : List Row) (row : Row) → slice_get rows 0 ≡ Some row → rows ≡ row ∷ drop 1 rows
first_some [] row is = absurd (let h : ⊥ = cc in h)
first_some (r ∷ rows) row is = let same : r ≡ row = cc in ap (λ x. x ∷ rows) same
