-- What two items of a table make, one after the other.
use Rattle.std.proofs.Common.{◌≡◌, ℕ, Bool, true, false, cond, ◌&&◌, ◌||◌, ◌==◌, nat_lt, List, Option, Some, None, ℤ, refl, sym, ap, ◌∙◌, arith}
use Rattle.std.specs.Cmp.{nat_cmp_total}
use Rattle.std.specs.FinMap.{get, empty, get-empty, get-insert, get-remove, same_map, nat_cmp-IsAntisymmetric}
use Rattle.std.specs.Ordering.{nat_cmp, eq_by_cmp}
use Rattle.std.specs.Str.{bytes_eq}
use Rattle.std.proofs.lemmas.Bool.{both_ways, false_from_ne_true, and_parts, and_from, eqb-true, eq-eqb}
use Rattle.std.proofs.lemmas.Bool.Decides.{nat_tests}
use Rattle.dates.specs.Entry.{spelling}
use Rattle.points.specs.PriorityArray.{Places, put}
use Rattle.points.specs.Run.{Rows}
use Rattle.store.specs.declared.change.ImportedEntry.{ImportedEntry}
use Rattle.store.specs.declared.change.KeptRow.{KeptRow}
use Rattle.store.specs.declared.change.NextNumber.{NextNumber}
use Rattle.store.specs.declared.change.PlaceValue.{PlaceValue}
use Rattle.store.specs.declared.change.RowsBelow.{RowsBelow}
use Rattle.store.specs.declared.change.ShownValue.{ShownValue}
use Rattle.store.specs.Change.{with_next, with_row, without_rows, with_place, with_shown, with_imported}
use Rattle.store_sql_rows.specs.Rows.{same_panel, same_command, same_place, same_schedule, same_entry}
use Rattle.store_sql_rows.proofs.ReadCellLemmas.{same-text, text-same, either-text, either-number}

-- ---- tests

over : {A : Type 0} (a b : Bool) (u v w : A) → (a ≡ false → b ≡ true → ⊥) → cond a u (cond b v w) ≡ cond a u w
over true b u v w covers = refl
over false true u v w covers = absurd (covers refl refl)
over false false u v w covers = refl

past : {A : Type 0} (a b : Bool) (u v w : A) → (a ≡ true → b ≡ true → ⊥) → cond a u (cond b v w) ≡ cond b v (cond a u w)
past true true u v w apart = absurd (apart refl refl)
past true false u v w apart = refl
past false b u v w apart = refl

both-same : {A : Type 0} (b : Bool) (x : A) → cond b x x ≡ x
both-same true x = refl
both-same false x = refl

or-over : (a b w : Bool) → a ≡ b → (a || (b || w)) ≡ (a || w)
or-over true b w same = refl
or-over false true w same = absurd (let h : ⊥ = cc in h)
or-over false false w same = refl

or-past : (a b w : Bool) → (a || (b || w)) ≡ (b || (a || w))
or-past true true w = refl
or-past true false w = refl
or-past false b w = refl

-- two texts that each are a third
meet : (a b q : List ℕ) → bytes_eq a q ≡ true → bytes_eq b q ≡ true → bytes_eq a b ≡ true
meet a b q first second = text-same a b (same-text a q first ∙ sym (same-text b q second))

follow : (a b q : List ℕ) → bytes_eq a b ≡ true → bytes_eq b q ≡ true → bytes_eq a q ≡ true
follow a b q first second = text-same a q (same-text a b first ∙ same-text b q second)

meet-number : (m n k : ℕ) → (m == k) ≡ true → (n == k) ≡ true → (m == n) ≡ true
meet-number m n k first second = eq-eqb m n (eqb-true m k first ∙ sym (eqb-true n k second))

follow-number : (m n k : ℕ) → (m == n) ≡ true → (n == k) ≡ true → (m == k) ≡ true
follow-number m n k first second = eq-eqb m k (eqb-true m n first ∙ eqb-true n k second)

either-both : {a b c d : Bool} → a ≡ c → b ≡ d → (a && b) ≡ (c && d)
either-both first second = λ i. first i && second i

-- ---- next numbers

pub next-either : (x y : NextNumber) → same_panel x y ≡ same_panel y x
next-either x y = either-text x.panel y.panel

pub next-absorb : (x y : NextNumber) (t : List ℕ → ℕ) → same_panel x y ≡ true → with_next x (with_next y t) ≡ with_next x t
next-absorb x y t same =
    λ i. λ q. over (bytes_eq x.panel q) (bytes_eq y.panel q) x.next y.next (t q)
    (λ no yes. both_ways (bytes_eq x.panel q) no (follow x.panel y.panel q same yes)) i

pub next-commute : (x y : NextNumber) (t : List ℕ → ℕ) → same_panel x y ≡ false → with_next x (with_next y t) ≡ with_next y (with_next x t)
next-commute x y t apart =
    λ i. λ q. past (bytes_eq x.panel q) (bytes_eq y.panel q) x.next y.next (t q)
    (λ one two. both_ways (same_panel x y) apart (meet x.panel y.panel q one two)) i

-- ---- what is shown

pub shown-either : (x y : ShownValue) → same_schedule x y ≡ same_schedule y x
shown-either x y = either-text x.schedule y.schedule

pub shown-absorb : (x y : ShownValue) (t : List ℕ → Option (Option ℤ)) → same_schedule x y ≡ true
    → with_shown x (with_shown y t) ≡ with_shown x t
shown-absorb x y t same =
    λ i. λ q. over (bytes_eq x.schedule q) (bytes_eq y.schedule q) x.shown y.shown (t q)
    (λ no yes. both_ways (bytes_eq x.schedule q) no (follow x.schedule y.schedule q same yes)) i

pub shown-commute : (x y : ShownValue) (t : List ℕ → Option (Option ℤ)) → same_schedule x y ≡ false
    → with_shown x (with_shown y t) ≡ with_shown y (with_shown x t)
shown-commute x y t apart =
    λ i. λ q. past (bytes_eq x.schedule q) (bytes_eq y.schedule q) x.shown y.shown (t q)
    (λ one two. both_ways (same_schedule x y) apart (meet x.schedule y.schedule q one two)) i

-- one that is quiet leaves nothing shown
pub shown-none : (x : ShownValue) → x.shown ≡ None → with_shown x (λ schedule. None) ≡ (λ schedule. None)
shown-none x quiet = λ i. λ q. none (bytes_eq x.schedule q) i where
  none : (b : Bool) → cond b x.shown None ≡ None
  none true = quiet
  none false = refl

-- ---- rows

abbrev at-row : KeptRow → List ℕ → ℕ → Bool
at-row x q n = bytes_eq x.panel q && x.number == n

pub row-either : (x y : KeptRow) → same_command x y ≡ same_command y x
row-either x y = either-both (either-text x.panel y.panel) (either-number x.number y.number)

row-follow : (x y : KeptRow) (q : List ℕ) (n : ℕ) → same_command x y ≡ true → at-row y q n ≡ true → at-row x q n ≡ true
row-follow x y q n same there =
    let a = and_parts (bytes_eq x.panel y.panel) (x.number == y.number) same in
    let b = and_parts (bytes_eq y.panel q) (y.number == n) there in
    and_from (bytes_eq x.panel q) (x.number == n) (follow x.panel y.panel q a.0 b.0) (follow-number x.number y.number n a.1 b.1)

row-meet : (x y : KeptRow) (q : List ℕ) (n : ℕ) → at-row x q n ≡ true → at-row y q n ≡ true → same_command x y ≡ true
row-meet x y q n one two =
    let a = and_parts (bytes_eq x.panel q) (x.number == n) one in
    let b = and_parts (bytes_eq y.panel q) (y.number == n) two in
    and_from (bytes_eq x.panel y.panel) (x.number == y.number) (meet x.panel y.panel q a.0 b.0) (meet-number x.number y.number n a.1 b.1)

pub row-absorb : (x y : KeptRow) (t : List ℕ → Rows) → same_command x y ≡ true → with_row x (with_row y t) ≡ with_row x t
row-absorb x y t same =
    λ i. λ q n. over (at-row x q n) (at-row y q n) (Some x.row) (Some y.row) (t q n)
    (λ no yes. both_ways (at-row x q n) no (row-follow x y q n same yes)) i

pub row-commute : (x y : KeptRow) (t : List ℕ → Rows) → same_command x y ≡ false → with_row x (with_row y t) ≡ with_row y (with_row x t)
row-commute x y t apart =
    λ i. λ q n. past (at-row x q n) (at-row y q n) (Some x.row) (Some y.row) (t q n)
    (λ one two. both_ways (same_command x y) apart (row-meet x y q n one two)) i

-- the rows below a number go

abbrev below-row : RowsBelow → List ℕ → ℕ → Bool
below-row x q n = bytes_eq x.panel q && nat_lt n x.number

abbrev pub is_lower : RowsBelow → KeptRow → Bool
is_lower x y = below-row x y.panel y.number

lower-here : (x : RowsBelow) (y : KeptRow) (q : List ℕ) (n : ℕ) → at-row y q n ≡ true → below-row x q n ≡ is_lower x y
lower-here x y q n there =
    let b = and_parts (bytes_eq y.panel q) (y.number == n) there in
    let texts : q ≡ y.panel = sym (same-text y.panel q b.0) in
    let numbers : n ≡ y.number = sym (eqb-true y.number n b.1) in
    λ i. below-row x (texts i) (numbers i)

pub lower-absorb : (x : RowsBelow) (y : KeptRow) (t : List ℕ → Rows) → is_lower x y ≡ true
    → without_rows x (with_row y t) ≡ without_rows x t
lower-absorb x y t low =
    λ i. λ q n. over (below-row x q n) (at-row y q n) None (Some y.row) (t q n)
    (λ no yes. both_ways (below-row x q n) no (lower-here x y q n yes ∙ low)) i

pub lower-commute : (x : RowsBelow) (y : KeptRow) (t : List ℕ → Rows) → is_lower x y ≡ false
    → without_rows x (with_row y t) ≡ with_row y (without_rows x t)
lower-commute x y t high =
    λ i. λ q n. past (below-row x q n) (at-row y q n) None (Some y.row) (t q n)
    (λ one two. both_ways (below-row x q n) (lower-here x y q n two ∙ high) one) i

pub lower-none : (x : RowsBelow) → without_rows x (λ panel number. None) ≡ (λ panel number. None)
lower-none x = λ i. λ q n. both-same (below-row x q n) None i

-- ---- places

pub get-put : (places : Places) (priority : ℕ) (value : Option ℤ) (q : ℕ)
    → get (put places priority value) q ≡ cond (eq_by_cmp nat_cmp q priority) value (get places q)
get-put places priority None q = get-remove nat_cmp_total places priority q
get-put places priority (Some value) q = get-insert nat_cmp_total places priority value q

tied-is : (q n : ℕ) → eq_by_cmp nat_cmp q n ≡ (q == n)
tied-is q n = grind (arith, nat_tests)

pub get-put_at : (places : Places) (priority : ℕ) (value : Option ℤ) (q : ℕ)
    → get (put places priority value) q ≡ cond (q == priority) value (get places q)
get-put_at places priority value q = get-put places priority value q ∙ ap (λ b. cond b value (get places q)) (tied-is q priority)

put-twice : (places : Places) (m n : ℕ) (u v : Option ℤ) (q : ℕ)
    → get (put (put places n v) m u) q ≡ cond (q == m) u (cond (q == n) v (get places q))
put-twice places m n u v q = get-put_at (put places n v) m u q ∙ ap (λ o. cond (q == m) u o) (get-put_at places n v q)

put-over : (places : Places) (m n : ℕ) (u v : Option ℤ) → (m == n) ≡ true → put (put places n v) m u ≡ put places m u
put-over places m n u v same =
    same_map nat_cmp_total nat_cmp-IsAntisymmetric _ _ (λ q. put-twice places m n u v q
    ∙ over (q == m) (q == n) u v (get places q) (λ no yes. both_ways (q == m) no (eq-eqb q m (eqb-true q n yes ∙ sym (eqb-true m n same))))
    ∙ sym (get-put_at places m u q))

put-past : (places : Places) (m n : ℕ) (u v : Option ℤ) → (m == n) ≡ false → put (put places n v) m u ≡ put (put places m u) n v
put-past places m n u v apart =
    same_map nat_cmp_total nat_cmp-IsAntisymmetric _ _ (λ q. put-twice places m n u v q
    ∙ past (q == m) (q == n) u v (get places q) (λ one two. both_ways (m == n) apart
    (eq-eqb m n (sym (eqb-true q m one) ∙ eqb-true q n two)))
    ∙ sym (put-twice places n m v u q))

put-none : (m : ℕ) → put empty m None ≡ empty
put-none m =
    same_map nat_cmp_total nat_cmp-IsAntisymmetric _ _
    (λ q. get-put_at empty m None q ∙ ap (λ o. cond (q == m) None o) (get-empty nat_cmp q)
    ∙ both-same (q == m) None ∙ sym (get-empty nat_cmp q))

pub place-either : (x y : PlaceValue) → same_place x y ≡ same_place y x
place-either x y = either-both (either-text x.point y.point) (either-number x.priority y.priority)

abbrev place-in : Bool → PlaceValue → Places → Places
place-in b x places = cond b (put places x.priority x.value) places

-- at one point, from whether each item is of it
place-over : (a b : Bool) (x y : PlaceValue) (places : Places) → (x.priority == y.priority) ≡ true → (a ≡ false → b ≡ true → ⊥)
    → place-in a x (place-in b y places) ≡ place-in a x places
place-over true true x y places same covers = put-over places x.priority y.priority x.value y.value same
place-over true false x y places same covers = refl
place-over false true x y places same covers = absurd (covers refl refl)
place-over false false x y places same covers = refl

place-past : (a b : Bool) (x y : PlaceValue) (places : Places) → (a ≡ true → b ≡ true → (x.priority == y.priority) ≡ false)
    → place-in a x (place-in b y places) ≡ place-in b y (place-in a x places)
place-past true true x y places apart = put-past places x.priority y.priority x.value y.value (apart refl refl)
place-past true false x y places apart = refl
place-past false true x y places apart = refl
place-past false false x y places apart = refl

pub place-absorb : (x y : PlaceValue) (t : List ℕ → Places) → same_place x y ≡ true → with_place x (with_place y t) ≡ with_place x t
place-absorb x y t same =
    let parts = and_parts (bytes_eq x.point y.point) (x.priority == y.priority) same in
    λ i. λ q. place-over (bytes_eq x.point q) (bytes_eq y.point q) x y (t q) parts.1
    (λ no yes. both_ways (bytes_eq x.point q) no (follow x.point y.point q parts.0 yes)) i

pub place-commute : (x y : PlaceValue) (t : List ℕ → Places) → same_place x y ≡ false
    → with_place x (with_place y t) ≡ with_place y (with_place x t)
place-commute x y t apart =
    λ i. λ q. place-past (bytes_eq x.point q) (bytes_eq y.point q) x y (t q)
    (λ one two. false_from_ne_true (x.priority == y.priority)
    (λ same. both_ways (same_place x y) apart (and_from (bytes_eq x.point y.point) (x.priority == y.priority)
    (meet x.point y.point q one two) same))) i

pub place-none : (x : PlaceValue) → x.value ≡ None → with_place x (λ point. empty) ≡ (λ point. empty)
place-none x quiet = λ i. λ q. none (bytes_eq x.point q) i where
  none : (b : Bool) → place-in b x empty ≡ empty
  none true = ap (put empty x.priority) quiet ∙ put-none x.priority
  none false = refl

-- ---- imported entries

pub entry-either : (x y : ImportedEntry) → same_entry x y ≡ same_entry y x
entry-either x y = either-both (either-text x.calendar y.calendar) (either-text (spelling x.entry) (spelling y.entry))

abbrev at-entry : ImportedEntry → List ℕ → List ℕ → Bool
at-entry x c e = bytes_eq x.calendar c && bytes_eq (spelling x.entry) e

pub entry-absorb : (x y : ImportedEntry) (t : List ℕ → List ℕ → Bool) → same_entry x y ≡ true
    → with_imported x (with_imported y t) ≡ with_imported x t
entry-absorb x y t same =
    let parts = and_parts (bytes_eq x.calendar y.calendar) (bytes_eq (spelling x.entry) (spelling y.entry)) same in
    let calendars : x.calendar ≡ y.calendar = same-text x.calendar y.calendar parts.0 in
    let texts : spelling x.entry ≡ spelling y.entry = same-text (spelling x.entry) (spelling y.entry) parts.1 in
    λ i. λ c e. or-over (at-entry x c e) (at-entry y c e) (t c e) (λ j. bytes_eq (calendars j) c && bytes_eq (texts j) e) i

pub entry-commute : (x y : ImportedEntry) (t : List ℕ → List ℕ → Bool) → same_entry x y ≡ false
    → with_imported x (with_imported y t) ≡ with_imported y (with_imported x t)
entry-commute x y t apart = λ i. λ c e. or-past (at-entry x c e) (at-entry y c e) (t c e) i

-- ---- what an item leaves and shows at a key

-- whether a row is of the key, asked the one way and the other
pub next-at : (panel : List ℕ) (y : NextNumber) (t : List ℕ → ℕ) (b : Bool) → bytes_eq panel y.panel ≡ b
    → with_next y t panel ≡ cond b y.next (t panel)
next-at panel y t b is = ap (λ c. cond c y.next (t panel)) (either-text y.panel panel ∙ is)

pub shown-at : (schedule : List ℕ) (y : ShownValue) (t : List ℕ → Option (Option ℤ)) (b : Bool) → bytes_eq schedule y.schedule ≡ b
    → with_shown y t schedule ≡ cond b y.shown (t schedule)
shown-at schedule y t b is = ap (λ c. cond c y.shown (t schedule)) (either-text y.schedule schedule ∙ is)

pub row-at : (panel : List ℕ) (number : ℕ) (y : KeptRow) (t : List ℕ → Rows) (b : Bool) → (bytes_eq panel y.panel && number == y.number) ≡ b
    → with_row y t panel number ≡ cond b (Some y.row) (t panel number)
row-at panel number y t b is =
    ap (λ c. cond c (Some y.row) (t panel number)) (either-both (either-text y.panel panel) (either-number y.number number) ∙ is)

get-place-in : (b : Bool) (y : PlaceValue) (places : Places) (q : ℕ)
    → get (place-in b y places) q ≡ cond (b && q == y.priority) y.value (get places q)
get-place-in true y places q = get-put_at places y.priority y.value q
get-place-in false y places q = refl

pub place-at : (point : List ℕ) (priority : ℕ) (y : PlaceValue) (t : List ℕ → Places) (b : Bool)
    → (bytes_eq point y.point && priority == y.priority) ≡ b
    → get (with_place y t point) priority ≡ cond b y.value (get (t point) priority)
place-at point priority y t b is =
    get-place-in (bytes_eq y.point point) y (t point) priority
    ∙ ap (λ c. cond c y.value (get (t point) priority)) (either-both (either-text y.point point) (refl {a = priority == y.priority}) ∙ is)

-- no place at another priority changes
pub place-other : (point : List ℕ) (priority : ℕ) (y : PlaceValue) (t : List ℕ → Places) → (priority == y.priority) ≡ false
    → get (with_place y t point) priority ≡ get (t point) priority
place-other point priority y t other =
    get-place-in (bytes_eq y.point point) y (t point) priority
    ∙ ap (λ c. cond c y.value (get (t point) priority)) (ap (λ c. bytes_eq y.point point && c) other ∙ never (bytes_eq y.point point)) where
      never : (b : Bool) → (b && false) ≡ false
      never true = refl
      never false = refl

pub entry-at : (calendar text : List ℕ) (y : ImportedEntry) (t : List ℕ → List ℕ → Bool) (b : Bool)
    → (bytes_eq calendar y.calendar && bytes_eq text (spelling y.entry)) ≡ b → with_imported y t calendar text ≡ (b || t calendar text)
entry-at calendar text y t b is =
    ap (λ c. c || t calendar text) (either-both (either-text y.calendar calendar) (either-text (spelling y.entry) text) ∙ is)

pub entry-stays : (calendar text : List ℕ) (y : ImportedEntry) (t : List ℕ → List ℕ → Bool) → t calendar text ≡ true
    → with_imported y t calendar text ≡ true
entry-stays calendar text y t is = ap (λ c. at-entry y calendar text || c) is ∙ always (at-entry y calendar text) where
  always : (b : Bool) → (b || true) ≡ true
  always true = refl
  always false = refl

pub entry-shows : (y : ImportedEntry) (t : List ℕ → List ℕ → Bool) → with_imported y t y.calendar (spelling y.entry) ≡ true
entry-shows y t =
    ap (λ c. c || t y.calendar (spelling y.entry))
    (and_from (bytes_eq y.calendar y.calendar) (bytes_eq (spelling y.entry) (spelling y.entry)) (text-same y.calendar y.calendar refl)
    (text-same (spelling y.entry) (spelling y.entry) refl))
