-- What the digits of a number are.
use Rattle.std.proofs.Common.{◌≡◌, ℕ, ◌+◌, ◌/◌, ◌%◌, ◌<◌, ◌≤◌, ◌^◌, [], ◌∷◌, ◌++◌}
use Rattle.std.proofs.Common.{refl, inl, inr, ap, ◌∙◌, arith}
use Rattle.std.specs.Fmt.{decimal, styled_decimal, format_spec}
use Rattle.std.specs.Fmt.{padded_integral, char_count}
use Rattle.std.proofs.lemmas.Fmt.{decimal_digit, decimal_step}
use Rattle.std.proofs.lemmas.Bool.{cases_lt}
use Rattle.dates.specs.Notation.{two_digit_text, four_digit_text}

decimal-two : (n : ℕ) → 10 ≤ n → n < 100 → decimal n ≡ two_digit_text n
decimal-two n low high =
    let small : n < 2 ^ 64 = omega arith in
    decimal_step n low small ∙ ap (λ ds. ds ++ ((48 + n % 10) ∷ [])) (decimal_digit (n / 10) (omega arith))

pub decimal-four : (n : ℕ) → 1000 ≤ n → n < 10000 → decimal n ≡ four_digit_text n
decimal-four n low high =
    let small : n < 2 ^ 64 = omega arith in
    let hundreds = decimal-two (n / 100) (omega arith) (omega arith) in
    let units = decimal_step n (omega arith) small in
    let tens = decimal_step (n / 10) (omega arith) (omega arith) in
    let seam : n / 10 / 10 ≡ n / 100 = omega arith in
    let ten : n / 10 % 10 ≡ n % 100 / 10 = omega arith in
    let one : n % 10 ≡ n % 100 % 10 = omega arith in
    units ∙ ap (λ ds. ds ++ ((48 + n % 10) ∷ [])) tens ∙ rw (seam, hundreds, ten, one) refl

-- what `{:02}` writes
pub styled_decimal-two : (n : ℕ) → n < 100 → styled_decimal (format_spec 32 0 4 2 18446744073709551615) n ≡ two_digit_text n
unfolding padded_integral char_count
styled_decimal-two n high =
    elim (cases_lt n 10) [
      | inl low ↦ let zero : n / 10 ≡ 0 = omega arith in
          let same : n % 10 ≡ n = omega arith in
          rw (decimal_digit n low, zero, same) refl
      | inr low ↦ rw (decimal-two n low high) refl
    ]
