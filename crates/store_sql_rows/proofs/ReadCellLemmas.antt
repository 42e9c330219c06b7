-- What a cell is that says something, and which rows have a key.
use Rattle.std.proofs.Common.{◌≡◌, ℕ, ◌≤◌, Bool, true, ◌&&◌, ◌==◌, nat_le, nat_lt, List, Option, Some, None, option_map, option_and_then, Result, Ok, Err}
use Rattle.std.proofs.Common.{pos, negsuc, refl, sym, ap, ◌∙◌, arith}
use Rattle.std.specs.Str.{bytes_eq}
use Rattle.std.proofs.lemmas.Bool.{and_parts, leb-true}
use Rattle.std.proofs.lemmas.Bool.Decides.{nat_tests, same_from_decides}
use Rattle.std.proofs.lemmas.Option.{cond_some, none-some}
use Rattle.std.proofs.lemmas.Slice.Eq.{bytes_eq-Decides}
use Rattle.dates.specs.declared.entry.Entry.{Entry}
use Rattle.dates.specs.declared.entry_fault.EntryFault.{EntryFault}
use Rattle.dates.specs.Entry.{reading, spelling}
use Rattle.dates.proofs.ReadSpells.{reading-ok}
use Rattle.sqlite_value.specs.declared.value.Value.{Value}
use Rattle.sqlite_value.specs.declared.value.Value.TheVariants.{Null, Int, Real, Text, Blob}
use Rattle.sqlite_value.specs.Order.{Row, column}
use Rattle.store.specs.declared.change.ImportedEntry.{ImportedEntry}
use Rattle.store.specs.declared.change.KeptRow.{KeptRow}
use Rattle.store.specs.declared.change.NextNumber.{NextNumber}
use Rattle.store.specs.declared.change.PlaceValue.{PlaceValue}
use Rattle.store.specs.declared.change.ShownValue.{ShownValue}
use Rattle.store_sql_rows.specs.Cells.{is_text, is_count, is_below, name_in, count_in, number_in, optional_in, entry_in, entry_of}
use Rattle.store_sql_rows.specs.Rows.{next_said, command_said, place_said, shown_said, imported_said, command_in}
use Rattle.store_sql_rows.specs.Rows.{of_panel, of_command, of_lower_command, of_place, of_schedule, of_entry}
use Rattle.store_sql_rows.proofs.StoredRowLemmas.{Agrees}

-- ---- texts and numbers

pub same-text : (a b : List ℕ) → bytes_eq a b ≡ true → a ≡ b
same-text a b is = (bytes_eq-Decides a b).0 is

pub text-same : (a b : List ℕ) → a ≡ b → bytes_eq a b ≡ true
text-same a b is = (bytes_eq-Decides a b).1 is

pub either-text : (a b : List ℕ) → bytes_eq a b ≡ bytes_eq b a
either-text a b =
    same_from_decides {P = a ≡ b} (bytes_eq a b) (bytes_eq b a) (bytes_eq-Decides a b)
    ((λ is. sym (same-text b a is)), (λ is. text-same b a (sym is)))

pub either-number : (m n : ℕ) → (m == n) ≡ (n == m)
either-number m n = grind (arith, nat_tests)

pub reading_spelled : (text : List ℕ) (entry : Entry) → reading text ≡ Ok entry → spelling entry ≡ text
reading_spelled text entry is = sym (reading-ok text entry is).0

-- ---- cells

pub name-cell : (v : Value) (name : List ℕ) → name_in v ≡ Some name → v ≡ Text name
name-cell (Text t) name is = ap Text (cond_some _ t name is).1
name-cell Null name is = absurd (none-some name is)
name-cell (Int n) name is = absurd (none-some name is)
name-cell (Real x) name is = absurd (none-some name is)
name-cell (Blob b) name is = absurd (none-some name is)

-- the number in a cell, and that it lies between the two
pub record IsCount (least greatest : ℕ) (v : Value) (count : ℕ) : Type 0 where
  pub cell : v ≡ Int (pos count)
  pub least-is : least ≤ count
  pub greatest-is : count ≤ greatest

pub count-cell : (least greatest : ℕ) (v : Value) (count : ℕ) → count_in least greatest v ≡ Some count → IsCount least greatest v count
count-cell least greatest (Int (pos n)) count is =
    let found = cond_some (nat_le least n && nat_le n greatest) n count is in
    let both = and_parts (nat_le least n) (nat_le n greatest) found.0 in
    let same : n ≡ count = found.1 in
    let low : least ≤ n = leb-true least n both.0 in
    let high : n ≤ greatest = leb-true n greatest both.1 in
    record { cell = ap (λ k. Int (pos k)) same; least-is = omega arith; greatest-is = omega arith }
count-cell least greatest (Int (negsuc n)) count is = absurd (none-some count is)
count-cell least greatest Null count is = absurd (none-some count is)
count-cell least greatest (Real x) count is = absurd (none-some count is)
count-cell least greatest (Text t) count is = absurd (none-some count is)
count-cell least greatest (Blob b) count is = absurd (none-some count is)

entry-read : (r : Result Entry EntryFault) (entry : Entry) → entry_of r ≡ Some entry → r ≡ Ok entry
entry-read (Ok e) entry is = cc
entry-read (Err fault) entry is = absurd (none-some entry is)

pub entry-cell : (v : Value) (entry : Entry) → entry_in v ≡ Some entry → v ≡ Text (spelling entry)
entry-cell (Text t) entry is = ap Text (sym (reading_spelled t entry (entry-read (reading t) entry is)))
entry-cell Null entry is = absurd (none-some entry is)
entry-cell (Int n) entry is = absurd (none-some entry is)
entry-cell (Real x) entry is = absurd (none-some entry is)
entry-cell (Blob b) entry is = absurd (none-some entry is)

-- ---- rows of two and of three parts

record TwoParts {A B C : Type 0} (f : A → B → C) (a : Option A) (b : Option B) (made : C) : Type 0 where
  first : A
  second : B
  first-is : a ≡ Some first
  second-is : b ≡ Some second
  is : f first second ≡ made

two-parts : {A B C : Type 0} (f : A → B → C) (a : Option A) (b : Option B) (made : C)
    → option_and_then (λ p. option_map (λ q. f p q) b) a ≡ Some made → TwoParts f a b made
two-parts f None b made is = absurd (none-some made is)
two-parts f (Some p) None made is = absurd (none-some made is)
two-parts f (Some p) (Some q) made is = record { first = p; second = q; first-is = refl; second-is = refl; is = cc }

record ThreeParts {A B C D : Type 0} (f : A → B → C → D) (a : Option A) (b : Option B) (c : Option C) (made : D) : Type 0 where
  first : A
  second : B
  third : C
  first-is : a ≡ Some first
  second-is : b ≡ Some second
  third-is : c ≡ Some third
  is : f first second third ≡ made

three-parts : {A B C D : Type 0} (f : A → B → C → D) (a : Option A) (b : Option B) (c : Option C) (made : D)
    → option_and_then (λ p. option_and_then (λ q. option_map (λ r. f p q r) c) b) a ≡ Some made → ThreeParts f a b c made
three-parts f None b c made is = absurd (none-some made is)
three-parts f (Some p) None c made is = absurd (none-some made is)
three-parts f (Some p) (Some q) None made is = absurd (none-some made is)
three-parts f (Some p) (Some q) (Some r) made is =
    record { first = p; second = q; third = r; first-is = refl; second-is = refl; third-is = refl; is = cc }

-- ---- the rows of a key

both-tests : {a b c d : Bool} → a ≡ c → b ≡ d → (a && b) ≡ (c && d)
both-tests first second = λ i. first i && second i

text-cell : (text : List ℕ) (v : Value) (a b : List ℕ) → name_in v ≡ Some a → a ≡ b → is_text text v ≡ bytes_eq text b
text-cell text v a b is same = ap (is_text text) (name-cell v a is) ∙ ap (bytes_eq text) same

pub panel-agrees : (panel : List ℕ) → Agrees next_said (of_panel panel) (λ y. bytes_eq panel y.panel)
panel-agrees panel row item says =
    let parts = two-parts (λ name next. let it : NextNumber = record { panel = name; next = next } in it)
    (name_in (column row 1)) (count_in 1 1_000_000_000_001 (column row 2)) item says in
    text-cell panel (column row 1) parts.first item.panel parts.first-is (ap (λ y. y.panel) parts.is)

pub command-parts : (row : Row) (item : KeptRow) → command_said row ≡ Some item
    → (column row 1 ≡ Text item.panel) × (column row 2 ≡ Int (pos item.number))
command-parts row item says =
    let parts = three-parts (λ name number kept. let it : KeptRow = record { panel = name; number = number; row = kept } in it)
    (name_in (column row 1)) (count_in 1 1_000_000_000_000 (column row 2))
    (command_in (column row 3) (column row 4) (column row 5) (column row 6) (column row 7) (column row 8)) item says in
    let count = count-cell 1 1_000_000_000_000 (column row 2) parts.second parts.second-is in (
      name-cell (column row 1) parts.first parts.first-is ∙ ap Text (ap (λ y. y.panel) parts.is),
      count.cell ∙ ap (λ n. Int (pos n)) (ap (λ y. y.number) parts.is),
    )

pub command-agrees : (panel : List ℕ) (number : ℕ)
    → Agrees command_said (of_command panel number) (λ y. bytes_eq panel y.panel && number == y.number)
command-agrees panel number row item says =
    let parts = command-parts row item says in
    both-tests (ap (is_text panel) parts.0) (ap (is_count number) parts.1)

pub lower-agrees : (panel : List ℕ) (number : ℕ)
    → Agrees command_said (of_lower_command panel number) (λ y. bytes_eq panel y.panel && nat_lt y.number number)
lower-agrees panel number row item says =
    let parts = command-parts row item says in
    both-tests (ap (is_text panel) parts.0) (ap (is_below number) parts.1)

-- the cells of a row of `place`
pub record PlaceParts (row : Row) (item : PlaceValue) : Type 0 where
  pub point : column row 1 ≡ Text item.point
  pub priority : column row 2 ≡ Int (pos item.priority)
  pub at_least_1 : 1 ≤ item.priority
  pub at_most_16 : item.priority ≤ 16

pub place-parts : (row : Row) (item : PlaceValue) → place_said row ≡ Some item → PlaceParts row item
place-parts row item says =
    let parts =
    three-parts (λ name priority value. let it : PlaceValue = record { point = name; priority = priority; value = Some value } in it)
    (name_in (column row 1)) (count_in 1 16 (column row 2)) (number_in (column row 3)) item says in
    let count = count-cell 1 16 (column row 2) parts.second parts.second-is in
    let same : parts.second ≡ item.priority = ap (λ y. y.priority) parts.is in
    let low : 1 ≤ parts.second = count.least-is in
    let high : parts.second ≤ 16 = count.greatest-is in
    record {
      point = name-cell (column row 1) parts.first parts.first-is ∙ ap Text (ap (λ y. y.point) parts.is);
      priority = count.cell ∙ ap (λ n. Int (pos n)) same;
      at_least_1 = omega arith;
      at_most_16 = omega arith;
    }

pub place-agrees : (point : List ℕ) (priority : ℕ)
    → Agrees place_said (of_place point priority) (λ y. bytes_eq point y.point && priority == y.priority)
place-agrees point priority row item says =
    let parts = place-parts row item says in
    both-tests (ap (is_text point) parts.point) (ap (is_count priority) parts.priority)

pub schedule-agrees : (schedule : List ℕ) → Agrees shown_said (of_schedule schedule) (λ y. bytes_eq schedule y.schedule)
schedule-agrees schedule row item says =
    let parts = two-parts (λ name value. let it : ShownValue = record { schedule = name; shown = Some value } in it)
    (name_in (column row 1)) (optional_in (column row 2)) item says in
    text-cell schedule (column row 1) parts.first item.schedule parts.first-is (ap (λ y. y.schedule) parts.is)

pub entry-agrees : (calendar text : List ℕ)
    → Agrees imported_said (of_entry calendar text) (λ y. bytes_eq calendar y.calendar && bytes_eq text (spelling y.entry))
entry-agrees calendar text row item says =
    let parts = two-parts (λ name entry. let it : ImportedEntry = record { calendar = name; entry = entry } in it)
    (name_in (column row 1)) (entry_in (column row 2)) item says in
    both-tests (text-cell calendar (column row 1) parts.first item.calendar parts.first-is (ap (λ y. y.calendar) parts.is))
    (ap (is_text text) (entry-cell (column row 2) parts.second parts.second-is ∙ ap (λ e. Text (spelling e)) (ap (λ y. y.entry) parts.is)))
