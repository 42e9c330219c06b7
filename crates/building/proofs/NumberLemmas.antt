-- The number that std reads of digits alone.
use Rattle.std.proofs.Common.{◌≡◌, ℕ, ℤ, pos, ◌<◌, ◌≤◌, ◌^◌, ◌==◌, Bool, true, false, ◌&&◌, nat_le, nat_lt, List, [], ◌∷◌, length, Some, option_map, Result, Ok, Err, refl, sym, ap, ◌∙◌, arith, w64}
use Rattle.std.specs.Char.{is_ascii_digit}
use Rattle.std.specs.List.{list_all}
use Rattle.std.specs.Result.{OkIff, result_ok}
use Rattle.std.specs.Str.{all_ascii_digits}
use Rattle.std.specs.Str.Parse.{ParsesSigned, digits_value}
use Rattle.std.specs.Cmp.{first_so, second_so}
use Rattle.std.proofs.lemmas.Bool.{eqb-true, leb-true, ltb-true}
use Rattle.std.proofs.lemmas.Str.Parse.{digits_value_short, numerals_by_value, parse_signed_digits, tells_all_ascii_digits}
use Rattle.building.specs.TimeValue.{is_number, number_at, signed_at}

all_digits : (ds : List ℕ) → list_all is_ascii_digit ds ≡ all_ascii_digits ds
all_digits [] = refl
all_digits (d ∷ ds) = ap (λ b. is_ascii_digit d && b) (all_digits ds)

value_of : {E : Type 0} (r : Result ℤ E) (P : Type 0) (v : ℤ) → OkIff r P v → P → result_ok r ≡ Some v
value_of (Ok x) P v h p = ap Some h.1
value_of (Err e) P v h p = absurd (h p)

pub number_read : (text : List ℕ) {E : Type 0} (r : Result ℤ E) → is_number text ≡ true → ParsesSigned w64 10 text r
    → result_ok r ≡ option_map pos (number_at text)
number_read text r e h =
    let rest = second_so (nat_lt 0 (length text)) (nat_le (length text) 11 && list_all is_ascii_digit text) e in
    let some : 0 < length text = ltb-true 0 (length text) (first_so (nat_lt 0 (length text)) _ e) in
    let few : length text ≤ 11 = leb-true (length text) 11 (first_so (nat_le (length text) 11) _ rest) in
    let digits : all_ascii_digits text ≡ true = sym (all_digits text) ∙ second_so (nat_le (length text) 11) _ rest in
    let own = numerals_by_value (λ ds. all_ascii_digits ds ≡ true) tells_all_ascii_digits in
    let small : digits_value 10 text < 10 ^ 11 = digits_value_short own text 11 digits few in
    let fits : digits_value 10 text < 2 ^ 63 = omega arith in
    rw e (value_of r _ (pos (digits_value 10 text)) (parse_signed_digits own w64 text r h digits) (some, fits))

-- a text without a leading `-`
pub signed_plain : (text : List ℕ) → ((rest : List ℕ) → ¬ (text ≡ 45 ∷ rest))
    → option_map pos (number_at text) ≡ signed_at text
signed_plain [] other = refl
signed_plain (b ∷ bs) other = by (b == 45) refl
  where
    by : (t : Bool) → (b == 45) ≡ t → option_map pos (number_at (b ∷ bs)) ≡ signed_at (b ∷ bs)
    by true e = absurd (other bs (ap (λ x. x ∷ bs) (eqb-true b 45 e)))
    by false e = rw e refl
