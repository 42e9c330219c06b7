-- What stands in tables: a test of an entry against what the tables tell.
use Rattle.std.proofs.Common.{◌≡◌, ℕ, ◌↔◌, ◌⊎◌, ◌==◌, ◌||◌, Bool, true, false, not, List, [], ◌∷◌, Option, Some, None, IsSome, is_some, unwrap_or}
use Rattle.std.proofs.Common.{string_bytes, refl, sym, ap, ◌∙◌, inl, inr}
use Rattle.std.specs.Bool.{IsTrue}
use Rattle.std.specs.BTreeMap.{keys}
use Rattle.std.specs.Cmp.Lexicographic.{slice_cmp}
use Rattle.std.specs.FinMap.{empty, empty_of_len, len, len-empty}
use Rattle.std.specs.List.{list_any}
use Rattle.std.specs.Map.{keys_of, lookup}
use Rattle.std.specs.Ordering.{nat_cmp, is_eq}
use Rattle.std.specs.Prelude.{ℤ}
use Rattle.std.proofs.lemmas.Bool.{both_ways, cases_Bool, false≢true}
use Rattle.std.proofs.lemmas.Bool.Decides.{Decides-eqb}
use Rattle.std.proofs.lemmas.Map.Text.{is_eq-slice_cmp}
use Rattle.std.proofs.lemmas.Slice.Eq.{bytes_eq-Decides}
use Rattle.points.specs.PriorityArray.{Places}
use Rattle.store_memory.specs.declared.calendar_table.CalendarTable.{CalendarTable}
use Rattle.store_memory.specs.declared.panel_table.PanelTable.{PanelTable}
use Rattle.store_memory.specs.Held.{next_in, slot_in, stands_calendar, stands_panel, stands_point, text_slot}
use Rattle.store_memory.specs.declared.row_slots.RowSlot.{RowSlot}
use Rattle.store_memory.specs.RowSlots.{row_for, slot_for}
use Rattle.store_memory.specs.Slots.{IsStanding, entry_slot, flatten, has_text}
use Rattle.points.specs.Texts.{Text}

-- where a look-up finds a key, some key passes each test that follows
found_any : {K X : Type 0} (test pass : K → Bool) → ((k : K) → test k ≡ true → pass k ≡ true) → (es : List (K × X))
    → IsSome (lookup test es)
    → list_any pass (keys_of es) ≡ true
found_any test pass follows [] here = absurd (false≢true here)
found_any test pass follows (e ∷ es) here =
    elim (cases_Bool (test e.0)) [
      | inl is ↦ rw (follows e.0 is) refl
      | inr not_it ↦
          let later : IsSome (lookup test es) = rw not_it at here in
          rw (found_any test pass follows es later) (either_true (pass e.0))
    ]
  where
    either_true : (b : Bool) → (b || true) ≡ true
    either_true true = refl
    either_true false = refl

any_key : {K : Type 0} (pass : K → Bool) (ks : List K) → list_any pass ks ≡ true → (k : K) × (pass k ≡ true)
any_key pass [] is = absurd (false≢true is)
any_key pass (k ∷ ks) is =
    elim (cases_Bool (pass k)) [
      | inl here ↦ (k, here)
      | inr later ↦ let rest : list_any pass ks ≡ true = rw later at is in any_key pass ks rest
    ]

some_of_flat : {A : Type 0} (o : Option (Option A)) → IsSome (flatten o) → IsSome o
some_of_flat None is = is
some_of_flat (Some slot) is = refl

first_of_two : (a b : Bool) → (a || b) ≡ true → a ≡ false → b ≡ true
first_of_two true b some other = absurd (false≢true (sym other))
first_of_two false b some other = some

second_of_two : (a b : Bool) → b ≡ true → (a || b) ≡ true
second_of_two true b is = refl
second_of_two false b is = is

-- a number that has a slot is among those of the slots
any_slot : (test : ℕ → Bool) (slots : List RowSlot) (number : ℕ) → IsSome (slot_for slots number) → test number ≡ true
    → list_any (λ (s : RowSlot). test s.number) slots ≡ true
any_slot test [] number here is = absurd (false≢true here)
any_slot test (s ∷ slots) number here is =
    elim (cases_Bool (s.number == number)) [
      | inl same ↦
          let passes : test s.number ≡ true = ap test ((Decides-eqb s.number number).0 same) ∙ is in
          rw passes refl
      | inr apart ↦
          let later : IsSome (slot_for slots number) = rw apart at here in
          second_of_two (test s.number) _ (any_slot test slots number later is)
    ]

pub panel_stands : (o : Option PanelTable)
    → IsStanding stands_panel o ↔ ((next_in o ≡ 1 → ⊥) ⊎ ((number : ℕ) × IsSome (flatten (slot_in o number))))
panel_stands None = (
  (λ none. absurd none),
  (λ either. elim either [
    | inl moved ↦ absurd (moved refl)
    | inr row ↦ absurd (false≢true row.1)
  ]),
)
panel_stands (Some table) = (
  (λ stands. elim (cases_Bool (table.next == 1)) [
    | inl first ↦
        let other : not (table.next == 1) ≡ false = rw first refl in
        let slot = any_key (λ (s : RowSlot). is_some (row_for table.rows s.number)) table.rows (first_of_two _ _ stands other) in
        inr (slot.0.number, slot.1)
    | inr moved ↦ inl (λ is. both_ways (table.next == 1) moved ((Decides-eqb table.next 1).1 is))
  ]),
  (λ either. elim either [
    | inl moved ↦ elim (cases_Bool (table.next == 1)) [
      | inl first ↦ absurd (moved ((Decides-eqb table.next 1).0 first))
      | inr other ↦ rw other refl
    ]
    | inr row ↦ second_of_two (not (table.next == 1)) _
        (any_slot (λ n. is_some (row_for table.rows n)) table.rows row.0 (some_of_flat (slot_for table.rows row.0) row.1) row.1)
  ]),
)

pub point_stands : (o : Option Places) → IsStanding stands_point o ↔ (unwrap_or o empty ≡ empty → ⊥)
point_stands None = ((λ none. absurd none), (λ some. absurd (some refl)))
point_stands (Some places) = (
  (λ stands is. absurd (both_ways (len places == 0) (of_not (len places == 0) stands)
      ((Decides-eqb (len places) 0).1 (ap len is ∙ len-empty nat_cmp ℤ)))),
  (λ some. elim (cases_Bool (len places == 0)) [
    | inl none ↦ absurd (some (empty_of_len places ((Decides-eqb (len places) 0).0 none)))
    | inr not_none ↦ rw not_none refl
  ]),
)
  where
    of_not : (b : Bool) → not b ≡ true → b ≡ false
    of_not true e = absurd (false≢true e)
    of_not false e = refl

pub calendar_stands : (o : Option CalendarTable)
    → IsStanding stands_calendar o ↔ ((text : Text) × IsTrue (is_some (flatten (text_slot o text))))
calendar_stands None = ((λ none. absurd none), (λ some. absurd (false≢true some.1)))
calendar_stands (Some table) = (
  (λ stands.
      let key = any_key (λ k. has_text table.entries (string_bytes k)) (keys table.entries) stands in
      (string_bytes key.0, key.1)),
  (λ some.
      found_any (λ k. is_eq (slice_cmp nat_cmp some.0 (string_bytes k))) (λ k. has_text table.entries (string_bytes k))
      (λ k same. ap (has_text table.entries) (sym ((bytes_eq-Decides some.0 (string_bytes k)).0 (sym (is_eq-slice_cmp some.0
      (string_bytes k)) ∙ same))) ∙ some.1)
      table.entries.entries (some_of_flat (entry_slot table.entries some.0) some.1)),
)
