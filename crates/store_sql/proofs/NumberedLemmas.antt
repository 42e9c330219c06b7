-- What the rows of a panel say under their numbers, as one query answers them.
use Rattle.std.proofs.Common.{◌≡◌, ◌≤◌, ◌<◌, ◌&&◌, ◌==◌, ◌++◌, ◌⊎◌, ℕ, pos, List, ◌∷◌, inl, inr, Option, Some, None, Result, Ok, Err, IfOk, is_some, filter, map, Bool, true, false, nat_lt, refl, sym, ap, ◌∙◌, subst, arith, true≢false, []}
use Rattle.std.specs.BTreeMap.{get}
use Rattle.std.specs.List.Sorted.{IsPermutation}
use Rattle.std.specs.Ordering.{nat_cmp}
use Rattle.std.proofs.lemmas.Bool.{and_from, and_parts, cases_Bool, ltb-false, ltb-true}
use Rattle.std.proofs.lemmas.List.Elements.{filter-append}
use Rattle.std.proofs.lemmas.List.Sorted.{IsPermutation-map}
use Rattle.points.specs.Name.{IsName}
use Rattle.points.specs.declared.command_row.CommandRow.{CommandRow}
use Rattle.sqlite_trees.proofs.ListLemmas.{IsPermutation-filter, filter-map, map-map}
use Rattle.sqlite_value.specs.declared.value.Value.{Value}
use Rattle.sqlite_value.specs.declared.value.Value.TheVariants.{Int}
use Rattle.sqlite_value.specs.Order.{Row, column}
use Rattle.store.specs.Change.{IsNumber}
use Rattle.store_sql_rows.specs.Cells.{count_in, is_count, is_text}
use Rattle.store_sql_rows.specs.Looking.{Finds, FindsRun, is_from}
use Rattle.store_sql_rows.specs.Rows.{command_in, of_command}
use Rattle.store_sql_rows.specs.Stored.{Kept, tables_in}
use Rattle.store_sql_rows.specs.declared.read_fault.ReadFault.{ReadFault}
use Rattle.store_sql_rows.proofs.ReadCellLemmas.{count-cell}
use Rattle.store_sql.specs.Numbered.{AreSaid, HasNumbers, IsListed, Numbered, said_by, showing}
use Rattle.store_sql.specs.Stepping.{IsBroken, IsNearNumber, IsNoRow, IsNumberAt}
use Rattle.store_sql.proofs.FoundLemmas.{found_none}
use Rattle.store_sql.proofs.NumberLemmas.{count_of_row, is_picked, no_row, none_broken, not_both, nothing_passes}
use Rattle.store_sql.proofs.ParsedLemmas.{command_bad, command_one, command_several, command_stood, count_given}

turn : {A B : Type 0} → A ⊎ B → B ⊎ A
turn (inl a) = inr a
turn (inr b) = inl b

-- ---- one row more

-- a row under a number shows that one, and no other
shows : (row : Row) (number : ℕ) → count_in 1 1_000_000_000_000 (column row 0) ≡ Some number → (n : ℕ)
    → is_count n (column row 0) ≡ (n == number)
shows row number reads n = ap (is_count n) (count-cell 1 1_000_000_000_000 (column row 0) number reads).cell

nothing_more : (rows : List Row) → rows ++ [] ≡ rows
nothing_more [] = refl
nothing_more (row ∷ rows) = ap (λ l. row ∷ l) (nothing_more rows)

pub number_of : (cell : Value) (number : ℕ) → count_in 1 1_000_000_000_000 cell ≡ Some number → IsNumber number
number_of cell number reads =
    let count = count-cell 1 1_000_000_000_000 cell number reads in
    record { least = count.least-is; greatest = count.greatest-is }

-- ---- the whole answer

filter_both : (one both other : Row → Bool) (rows : List Row) → ((row : Row) → (other row && one row) ≡ both row)
    → filter one (filter other rows) ≡ filter both rows
filter_both one both other [] are = refl
filter_both one both other (row ∷ rows) are =
    step (other row) (one row) (both row) refl refl (are row) (filter_both one both other rows are)
  where
    step : (a b c : Bool) → other row ≡ a → one row ≡ b → (other row && one row) ≡ both row
        → filter one (filter other rows) ≡ filter both rows
        → filter one (filter other (row ∷ rows)) ≡ filter both (row ∷ rows)
    step true true c is_a is_b is rest = rw (is_a, is_b, sym (sym (ap (λ x. x && one row) is_a ∙ is_b) ∙ is)) (ap (λ l. row ∷ l) rest)
    step true false c is_a is_b is rest = rw (is_a, is_b, sym (sym (ap (λ x. x && one row) is_a ∙ is_b) ∙ is)) rest
    step false b c is_a is_b is rest = rw (is_a, sym (sym (ap (λ x. x && one row) is_a) ∙ is)) rest

abbrev show_seven : Row → Row
show_seven row = column row 2 ∷ column row 3 ∷ column row 4 ∷ column row 5 ∷ column row 6 ∷ column row 7 ∷ column row 8 ∷ []

abbrev show_six : Row → Row
show_six row = column row 3 ∷ column row 4 ∷ column row 5 ∷ column row 6 ∷ column row 7 ∷ column row 8 ∷ []

-- the cells of an answer without the number
abbrev behind : Row → Row
behind row = column row 1 ∷ column row 2 ∷ column row 3 ∷ column row 4 ∷ column row 5 ∷ column row 6 ∷ []

module _ (panel : List ℕ) (from : ℕ) (kept : Kept) (answer : List Row) (named : IsName panel)
    (found : Finds (is_picked panel from) show_seven kept.command answer) where
  picked_both : (number : ℕ) → from ≤ number → (row : Row)
      → (is_picked panel from row && is_count number (column row 2)) ≡ of_command panel number row
  picked_both number more row = elim (cases_Bool (of_command panel number row)) [
    | inl is ↦
        let both = and_parts (is_text panel (column row 1)) (is_count number (column row 2)) is in
        and_from _ _ (count_of_row panel kept from number row is more) both.1 ∙ sym is
    | inr off ↦ elim (cases_Bool (is_picked panel from row && is_count number (column row 2))) [
      | inl is ↦
          let both = and_parts (is_picked panel from row) (is_count number (column row 2)) is in
          let name = (and_parts (is_text panel (column row 1)) (is_from from (column row 2)) both.0).0 in
          absurd (true≢false (sym (and_from _ _ name both.1) ∙ off))
      | inr none ↦ none ∙ sym off
    ]
  ]

  -- of the rows that show a number the cells behind it are what a query under that number answers
  found_under : (number : ℕ) → from ≤ number → Finds (of_command panel number) show_six kept.command (map behind (showing number answer))
  found_under number more =
      let rows = filter (is_picked panel from) kept.command in
      let here = filter (λ row. is_count number (column row 2)) rows in
      let shown = IsPermutation-map behind _ _
      (IsPermutation-filter (λ row. is_count number (column row 0)) (map show_seven rows) answer found.shown) in
      let are : map behind (showing number (map show_seven rows)) ≡ map show_six (filter (of_command panel number) kept.command) =
      ap (map behind) (filter-map (λ row. is_count number (column row 0)) show_seven rows)
      ∙ map-map behind show_seven here
      ∙ ap (map show_six)
      (filter_both (λ row. is_count number (column row 2)) (of_command panel number) (is_picked panel from) kept.command
      (picked_both number more)) in
      record { shown = subst (λ l. IsPermutation l (map behind (showing number answer))) are shown }

  abbrev Under : ℕ → Type 0
  Under number = IsName panel × (count_in 1 1_000_000_000_000 (Int (pos number)) ≡ Some number)

  under : (number : ℕ) → IsNumber number → Under number
  under number is = (named, count_given 1 1_000_000_000_000 number is.least is.greatest)

  nothing_said : (number : ℕ) → from ≤ number → IsNumber number → (rows : List Row) → showing number answer ≡ rows → said_by rows ≡ None
      → IsNoRow kept panel number
  nothing_said number more is [] shown said =
      found_none (of_command panel number) show_six kept.command (map behind (showing number answer)) (found_under number more)
      (ap (map behind) shown)
  nothing_said number more is (row ∷ []) shown said = absurd (let h : ⊥ = cc in h)
  nothing_said number more is (row ∷ other ∷ rows) shown said = absurd (let h : ⊥ = cc in h)

  one_said : (number : ℕ) (x : CommandRow) → from ≤ number → IsNumber number → (rows : List Row) → showing number answer ≡ rows
      → said_by rows ≡ Some (Some x) → ((tables_in kept).row panel number ≡ Some x) × (IsBroken kept panel number → ⊥)
  one_said number x more is [] shown said = absurd (let h : ⊥ = cc in h)
  one_said number x more is (row ∷ []) shown said =
      let one : map behind (showing number answer) ≡ behind row ∷ [] = ap (map behind) shown in
      let cells : command_in (column row 1) (column row 2) (column row 3) (column row 4) (column row 5) (column row 6) ≡ Some x = cc in (
        command_one panel number kept (map behind (showing number answer)) (under number is) (found_under number more) (behind row) x one
            cells,
        λ broken. true≢false (sym broken.1
            ∙ command_stood panel number kept (map behind (showing number answer)) (under number is) (found_under number more) (behind row) x
            one cells),
      )
  one_said number x more is (row ∷ other ∷ rows) shown said = absurd (let h : ⊥ = cc in h)

  bad_said : (number : ℕ) → from ≤ number → IsNumber number → (rows : List Row) → showing number answer ≡ rows
      → said_by rows ≡ Some None → IsBroken kept panel number
  bad_said number more is [] shown said = absurd (let h : ⊥ = cc in h)
  bad_said number more is (row ∷ []) shown said =
      let one : map behind (showing number answer) ≡ behind row ∷ [] = ap (map behind) shown in
      let cells : command_in (column row 1) (column row 2) (column row 3) (column row 4) (column row 5) (column row 6) ≡ None = cc in (
        is,
        command_bad panel number kept (map behind (showing number answer)) (under number is) (found_under number more) (behind row) one
            cells,
      )
  bad_said number more is (row ∷ other ∷ rows) shown said = (
    is,
    command_several panel number kept (map behind (showing number answer)) (under number is) (found_under number more)
        (record { first = behind row; second = behind other; more = map behind rows; is = ap (map behind) shown }),
  )

module _ (panel : List ℕ) (from upto : ℕ) (kept : Kept) (answer : List Row) (named : IsName panel)
    (found : FindsRun (is_picked panel from) show_seven from upto kept.command answer) where
  abbrev whole : List Row
  whole = answer ++ found.rest

  finds : Finds (is_picked panel from) show_seven kept.command whole
  finds = record { shown = found.shown }

  -- the rows that are left out show greater numbers than the gap
  same_showing : (number : ℕ) → number ≤ found.gap → showing number answer ≡ showing number whole
  same_showing number low =
      let none : showing number found.rest ≡ [] =
      nothing_passes (λ row. is_count number (column row 0)) found.rest
      (λ row h is. let high = found.behind row h number is in omega (arith, low, high)) in
      sym (filter-append (λ row. is_count number (column row 0)) answer found.rest
      ∙ ap (λ l. showing number answer ++ l) none ∙ nothing_more (showing number answer))

  module _ (numbered : Numbered) (said : AreSaid answer numbered) (have : HasNumbers numbered) where
    told : (number : ℕ) → number ≤ found.gap → IsNumber number → get nat_cmp numbered number ≡ said_by (showing number whole)
    told number low is = said number is ∙ ap said_by (same_showing number low)

    none_beyond : (number : ℕ) → found.gap ≤ number → (o : Option (Option CommandRow)) → get nat_cmp numbered number ≡ o
        → get nat_cmp numbered number ≡ None
    none_beyond number high None is = is
    none_beyond number high (Some row) is =
        let none : showing number answer ≡ [] =
        nothing_passes (λ r. is_count number (column r 0)) answer
        (λ r h shown. let low = found.before r h number shown in omega (arith, low, high)) in
        said number (have number (ap is_some is)) ∙ ap said_by none

    pub is_listed : IsListed kept panel from upto found.gap numbered
    is_listed = record {
      after = found.after;
      reaches = found.reaches;
      none = λ number more low is none. nothing_said panel from kept whole named finds number more is (showing number whole) refl
          (sym (told number low is) ∙ none);
      some = λ number row more low here.
          let is = have number (ap is_some here) in
          one_said panel from kept whole named finds number row more is (showing number whole) refl (sym (told number low is) ∙ here);
      broken = λ number more low here.
          let is = have number (ap is_some here) in
          bad_said panel from kept whole named finds number more is (showing number whole) refl (sym (told number low is) ∙ here);
      beyond = λ number high. none_beyond number high (get nat_cmp numbered number) refl;
    }

  pub listed_ok : (r : Result Numbered ReadFault) → IfOk r (AreSaid answer) → IfOk r HasNumbers
      → IfOk r (λ numbered. (gap : ℕ) × IsListed kept panel from upto gap numbered)
  listed_ok (Ok numbered) said have = (found.gap, is_listed numbered said have)
  listed_ok (Err fault) said have = tt

-- ---- the next number

module _ (kept : Kept) (panel : List ℕ) (least upto gap from : ℕ) (numbered : Numbered) (have : HasNumbers numbered)
    (listed : IsListed kept panel least upto gap numbered) (up : (n : ℕ) → from ≤ n → 1 ≤ n → least ≤ n) where
  pub near_is_none : from ≤ gap → ((n : ℕ) → from ≤ n → get nat_cmp numbered n ≡ None) → IsNearNumber kept panel from upto None
  near_is_none start none n more near is =
      let reaches = listed.reaches in
      let low : n ≤ gap = elim near [ inl below ↦ omega (arith, below, reaches) | inr same ↦ omega (arith, same, start) ] in
      listed.none n (up n more is.least) low is (none n more)

  -- where something is told of a number it is before the gap
  within : (number : ℕ) (told : Option CommandRow) → get nat_cmp numbered number ≡ Some told → number < gap
  within number told here = elim (cases_Bool (nat_lt number gap)) [
    | inl less ↦ ltb-true number gap less
    | inr more ↦ absurd (not_both (get nat_cmp numbered number) told here (listed.beyond number (ltb-false number gap more)))
  ]

  -- where something is told of a number there is a row
  told_row : (number : ℕ) (told : Option CommandRow) → least ≤ number → get nat_cmp numbered number ≡ Some told
      → IsNoRow kept panel number → ⊥
  told_row number (Some row) more here none =
      let low = within number (Some row) here in
      not_both ((tables_in kept).row panel number) row (listed.some number row more (omega (arith, low)) here).0
      (no_row kept panel number (λ _. none))
  told_row number None more here none =
      let low = within number None here in
      none_broken kept panel number none (listed.broken number more (omega (arith, low)) here)

  gone : (n number : ℕ) → ((n : ℕ) → from ≤ n → is_some (get nat_cmp numbered n) ≡ true → number ≤ n) → from ≤ n → n < number
      → (o : Option (Option CommandRow)) → get nat_cmp numbered n ≡ o → get nat_cmp numbered n ≡ None
  gone n number lowest more less None is = is
  gone n number lowest more less (Some told) is =
      absurd (let after : number ≤ n = lowest n more (ap is_some is) in omega (arith, after, less))

  pub next_is : (number : ℕ) (told : Option CommandRow) → from ≤ number → get nat_cmp numbered number ≡ Some told
      → ((n : ℕ) → from ≤ n → is_some (get nat_cmp numbered n) ≡ true → number ≤ n)
      → IsNumberAt kept panel from number × (number < gap)
  next_is number told after here lowest =
      let is = have number (ap is_some here) in
      let low = within number told here in (
        record {
          is = is;
          after = after;
          between = λ n more less number_is. listed.none n (up n more number_is.least) (omega (arith, less, low)) number_is
              (gone n number lowest more less (get nat_cmp numbered n) refl);
          here = told_row number told (up number after is.least) here;
        },
        low,
      )
