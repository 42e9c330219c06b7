-- What is found among slots in the order of their numbers, and what an edit does to them.
use Rattle.std.proofs.Common.{◌≡◌, ◌≢◌, ℕ, zero, suc, ◌+◌, ◌-◌, ◌<◌, ◌≤◌, eqb, nat_lt, List, ◌∷◌, ◌++◌, length, get_or, set, if◌then◌else◌, []}
use Rattle.std.proofs.Common.{Option, Some, None, IsSome, true, false, refl, sym, ap, ◌∙◌, subst, inl, inr, arith}
use Rattle.std.specs.List.{insert}
use Rattle.std.specs.List.Sorted.{IsNonDecreasingBy, IsPartitionPoint, IsPartitionedBy}
use Rattle.std.proofs.lemmas.Bool.{cases_Bool, cases_lt, cases_order, ltb-false, ltb-true}
use Rattle.std.proofs.lemmas.Bool.Decides.{Decides-eqb, nat_tests}
use Rattle.std.proofs.lemmas.Grind.{common_steps}
use Rattle.std.proofs.lemmas.List.{get_or_default}
use Rattle.std.proofs.lemmas.List.Sorted.{IsNonDecreasingBy-from_default, IsPartitionedBy-ltb}
use Rattle.std.proofs.lemmas.List.Edits.{length-insert, get_or-insert_below, get_or-insert_at, get_or-insert_above}
use Rattle.points.specs.declared.command_row.CommandRow.{CommandRow}
use Rattle.store_memory.proofs.HeldLemmas.{some_stays}
use Rattle.store_memory.specs.declared.row_slots.RowSlot.{RowSlot}
use Rattle.store_memory.specs.Slots.{flatten}
use Rattle.store_memory.specs.RowSlots.{AreRising, IsAt, IsCountBelow, no_slot, number_at, slot_for}

-- no slot before an index is that of the number
abbrev NoneBefore : List RowSlot → ℕ → ℕ → Type 0
NoneBefore slots number i = (j : ℕ) → j < i → number_at slots j ≢ number

none_before-tail : (s : RowSlot) (slots : List RowSlot) (number i : ℕ) → NoneBefore (s ∷ slots) number (suc i) → NoneBefore slots number i
none_before-tail s slots number i none j below = none (suc j) (omega arith)

is_at-tail : (s : RowSlot) (slots : List RowSlot) (number i : ℕ) → IsAt (s ∷ slots) number (suc i) → IsAt slots number i
is_at-tail s slots number i at = record { within = omega (arith, at.within); has_number = at.has_number }

absent_if : (slots : List RowSlot) (number : ℕ) → NoneBefore slots number (length slots) → slot_for slots number ≡ None
absent_if [] number none = refl
absent_if (s ∷ slots) number none =
    grind (arith, nat_tests, none 0 (omega arith), absent_if slots number (none_before-tail s slots number _ none))

present_if : (slots : List RowSlot) (number i : ℕ) → IsAt slots number i → NoneBefore slots number i
    → slot_for slots number ≡ Some (get_or slots i no_slot).row
present_if [] number i at none = absurd (omega (arith, at.within))
present_if (s ∷ slots) number zero at none = grind (arith, nat_tests, at.has_number)
present_if (s ∷ slots) number (suc i) at none =
    grind (arith, nat_tests, none 0 (omega arith), present_if slots number i (is_at-tail s slots number i at) (none_before-tail s slots number i none))

-- a slot that is written over the first one of its number
set_there : (slots : List RowSlot) (slot : RowSlot) (i : ℕ) → IsAt slots slot.number i → NoneBefore slots slot.number i
    → (n : ℕ) → slot_for (set slots i slot) n ≡ (if eqb slot.number n then Some slot.row else slot_for slots n)
set_there [] slot i at none n = absurd (omega (arith, at.within))
set_there (s ∷ slots) slot zero at none n = grind (arith, nat_tests, at.has_number)
set_there (s ∷ slots) slot (suc i) at none n =
    grind (arith, nat_tests, none 0 (omega arith), set_there slots slot i (is_at-tail s slots slot.number i at) (none_before-tail s slots slot.number i none) n)

-- a new one before any of its number
inserted_before : (slots : List RowSlot) (slot : RowSlot) (i : ℕ) → NoneBefore slots slot.number i
    → (n : ℕ) → slot_for (insert slots i slot) n ≡ (if eqb slot.number n then Some slot.row else slot_for slots n)
inserted_before slots slot zero none n = refl
inserted_before [] slot (suc i) none n = refl
inserted_before (s ∷ slots) slot (suc i) none n =
    grind (arith, nat_tests, none 0 (omega arith), inserted_before slots slot i (none_before-tail s slots slot.number i none) n)

module _ (slots : List RowSlot) (rising : AreRising slots) (number i : ℕ) (at : IsAt slots number i) where
  none_before : NoneBefore slots number i
  none_before j below same = omega (arith, rising j i below at.within, at.has_number)

  pub found : slot_for slots number ≡ Some (get_or slots i no_slot).row
  found = present_if slots number i at none_before

module _ (slots : List RowSlot) (rising : AreRising slots) (slot : RowSlot) (i : ℕ) (at : IsAt slots slot.number i) where
  pub written : (n : ℕ) → slot_for (set slots i slot) n ≡ (if eqb slot.number n then Some slot.row else slot_for slots n)
  written = set_there slots slot i at (none_before slots rising slot.number i at)

  pub rising-set : AreRising (set slots i slot)
  rising-set j k below within = grind (arith, common_steps, rising j k, rising j i, rising i k, at.within, at.has_number)

-- ---- what a search finds

up : (slots : List RowSlot) → AreRising slots → IsNonDecreasingBy (λ (s : RowSlot). s.number) slots
up slots rising = IsNonDecreasingBy-from_default (λ (s : RowSlot). s.number) slots no_slot
    (λ i j upto within. elim (cases_order i j) [
      | inl same ↦ let equal = ap (number_at slots) same in omega (arith, equal)
      | inr sides ↦ elim sides [
        | inl less ↦ let lower = rising i j less within in omega (arith, lower)
        | inr more ↦ absurd (omega (arith, upto, more))
      ]
    ])

module _ (slots : List RowSlot) (rising : AreRising slots) (number : ℕ) where
  pub parted : IsPartitionedBy (λ (s : RowSlot). nat_lt s.number number) slots
  parted = IsPartitionedBy-ltb (λ (s : RowSlot). s.number) slots number (up slots rising)

  pub counted : (i : ℕ) → i ≤ length slots
      → IsPartitionPoint (λ (s : RowSlot). nat_lt s.number number ≡ true) (λ (s : RowSlot). nat_lt s.number number ≡ false) slots i
      → IsCountBelow slots number i
  counted i bound cut = record {
    within = bound;
    before = λ j early. ltb-true (number_at slots j) number (cut.0 j no_slot (omega arith) early);
    there = λ within. ltb-false (number_at slots i) number (cut.1 i no_slot (omega arith) within);
    behind = λ j late within.
        let least = ltb-false (number_at slots i) number (cut.1 i no_slot (omega arith) (omega (arith, late, within))) in
        let less = rising i j late within in
        omega (arith, least, less);
  }

-- the last one tells of all
pub past_last : (slots : List RowSlot) (number : ℕ) (last : RowSlot) → AreRising slots → 0 < length slots
    → last ≡ get_or slots (length slots - 1) last
    → (last.number < number → (j : ℕ) → j < length slots → number_at slots j < number)
    × (((j : ℕ) → j < length slots → number_at slots j < number) → last.number < number)
past_last slots number last rising some is =
    let end = length slots - 1 in
    let at_end : number_at slots end ≡ last.number =
    ap (λ (s : RowSlot). s.number) (sym (is ∙ get_or_default slots end last no_slot (omega (arith, some)))) in (
      (λ less j within. elim (cases_order j end) [
        | inl same ↦ let equal = ap (number_at slots) same in omega (arith, equal, at_end, less)
        | inr sides ↦ elim sides [
          | inl early ↦ let lower = rising j end early (omega (arith, some)) in omega (arith, lower, at_end, less)
          | inr late ↦ absurd (omega (arith, late, within))
        ]
      ]),
      (λ all. let less = all end (omega (arith, some)) in omega (arith, less, at_end)),
    )

-- ---- a number that has no slot

pub absent_past : (slots : List RowSlot) (number : ℕ) → ((j : ℕ) → j < length slots → number_at slots j < number) → slot_for slots number ≡ None
absent_past slots number past = absent_if slots number (λ j within same. omega (arith, past j within, same))

module _ (slots : List RowSlot) (number i : ℕ) (count : IsCountBelow slots number i) (other : IsAt slots number i → ⊥) where
  after : (j : ℕ) → i ≤ j → j < length slots → number < number_at slots j
  after j from within = elim (cases_order i j) [
    | inl same ↦
        let least : number ≤ number_at slots j = subst (λ k. number ≤ number_at slots k) same (count.there (omega (arith, same, within))) in
        let apart : number_at slots j ≢ number = λ equal. other (record { within = omega (arith, same, within); has_number = ap (number_at slots) same ∙ equal }) in
        elim (cases_order number (number_at slots j)) [
          | inl is ↦ absurd (apart (sym is))
          | inr sides ↦ elim sides [ inl lower ↦ lower | inr higher ↦ absurd (omega (arith, least, higher)) ]
        ]
    | inr sides ↦ elim sides [
      | inl lower ↦ count.behind j lower within
      | inr higher ↦ absurd (omega (arith, from, higher))
    ]
  ]

  none : (j : ℕ) → j < length slots → number_at slots j ≢ number
  none j within same = elim (cases_lt j i) [
    | inl early ↦ omega (arith, count.before j early, same)
    | inr late ↦ omega (arith, after j late within, same)
  ]

  pub absent : slot_for slots number ≡ None
  absent = absent_if slots number none

  pub inserted : (row : Option CommandRow) (n : ℕ)
      → slot_for (insert slots i (record { number = number; row = row })) n ≡ (if eqb number n then Some row else slot_for slots n)
  inserted row n = inserted_before slots (record { number = number; row = row }) i (λ j early same. omega (arith, count.before j early, same)) n

  pub rising-insert : (row : Option CommandRow) → AreRising slots → AreRising (insert slots i (record { number = number; row = row }))
  rising-insert row rising j k below within =
      let slot : RowSlot = record { number = number; row = row } in
      let new = insert slots i slot in
      let number_of = λ (s : RowSlot). s.number in
      let length_new = length-insert slots i slot count.within in
      let early : (m : ℕ) → m < i → number_at new m ≡ number_at slots m =
      λ m less. ap number_of (get_or-insert_below slots i slot no_slot m less count.within) in
      let here : (m : ℕ) → m ≡ i → number_at new m ≡ number = λ m is. rw is (ap number_of (get_or-insert_at slots i slot no_slot count.within)) in
      let late : (m : ℕ) → i < m → number_at new m ≡ number_at slots (m - 1) =
      λ m more. subst (λ q. number_at new q ≡ number_at slots (m - 1)) {x = m - 1 + 1} (omega arith)
      (ap number_of (get_or-insert_above slots i slot no_slot (m - 1) (omega arith) count.within)) in
      grind (arith, early j, here j, late j, early k, here k, late k, rising j k, rising j (k - 1), rising (j - 1) (k - 1), count.before j, after (k - 1))

-- ---- one more behind the last

appended : (slots : List RowSlot) (slot : RowSlot) → NoneBefore slots slot.number (length slots)
    → (n : ℕ) → slot_for (slots ++ slot ∷ []) n ≡ (if eqb slot.number n then Some slot.row else slot_for slots n)
appended [] slot none n = refl
appended (s ∷ slots) slot none n =
    grind (arith, nat_tests, none 0 (omega arith), appended slots slot (none_before-tail s slots slot.number _ none) n)

module _ (slots : List RowSlot) (number : ℕ) (past : (j : ℕ) → j < length slots → number_at slots j < number) where
  pub pushed : (row : Option CommandRow) (n : ℕ)
      → slot_for (slots ++ record { number = number; row = row } ∷ []) n ≡ (if eqb number n then Some row else slot_for slots n)
  pushed row n = appended slots (record { number = number; row = row }) (λ j within same. omega (arith, past j within, same)) n

-- ---- room that is made

module _ (number : ℕ) (old new : ℕ → Option (Option CommandRow)) (lacked : old number ≡ None)
    (is : (n : ℕ) → new n ≡ (if eqb number n then Some None else old n)) where
  pub room-made : IsSome (new number)
  room-made = grind (arith, nat_tests, is number)

  pub room-stays : (n : ℕ) → IsSome (old n) → IsSome (new n)
  room-stays n here = some_stays (eqb number n) None (old n) (new n) (is n) here

  pub room-same : (n : ℕ) → flatten (new n) ≡ flatten (old n)
  room-same n = elim (cases_Bool (eqb number n)) [
    | inl same ↦
        let made : new n ≡ Some None = rw same at (is n) in
        let equal : number ≡ n = (Decides-eqb number n).0 same in
        ap flatten made ∙ sym (ap flatten (sym (ap old equal) ∙ lacked))
    | inr apart ↦ let kept : new n ≡ old n = rw apart at (is n) in ap flatten kept
  ]

-- ---- those that are taken out at the front

-- where the first is not below a number, none is
pub all-stay : (slots : List RowSlot) (number : ℕ) → AreRising slots → ((0 < length slots) → number_at slots 0 < number → ⊥)
    → (n : ℕ) → slot_for slots n ≡ (if nat_lt n number then None else slot_for slots n)
all-stay slots number rising first n = elim (cases_Bool (nat_lt n number)) [
  | inr late ↦ rw late refl
  | inl early ↦
      let less : n < number = grind (arith, nat_tests) in
      rw early (absent_if slots n (λ j within same. none j within same less))
]
  where
    none : (j : ℕ) → j < length slots → number_at slots j ≡ n → n < number → ⊥
    none zero within same less = first within (omega (arith, same, less))
    none (suc j) within same less = first (omega arith) (omega (arith, rising 0 (suc j) (omega arith) within, same, less))
