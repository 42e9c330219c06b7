-- The moment that std reads is the one that `moment_in` names.
use Rattle.std.proofs.Common.{◌≡◌, ◌∷◌, ◌&&◌, [], ℕ, ℤ, Bool, List, Result, Ok, Err, Some, true, false, refl, ap, w64}
use Rattle.std.specs.Prelude.{pos, negsuc, nat_lt, FitsSigned}
use Rattle.std.proofs.lemmas.Bool.{ltb-true, lt-ltb}
use Rattle.std.specs.Char.{digit_value}
use Rattle.std.specs.List.{list_all}
use Rattle.std.specs.Result.{result_ok}
use Rattle.std.specs.Str.Parse.{AllDigits, IsNumeral, ParsesSigned, signed_digits_value, without_leading_sign}
use Rattle.clap.proofs.WalkLemmas.{both}
use Rattle.clap.specs.ValueTests.{fits_i64, is_numeral}
use Rattle.cli_words.specs.Line.{moment_in}

digits_from : (ds : List ℕ) → list_all (λ d. nat_lt (digit_value d) 10) ds ≡ true → AllDigits 10 ds
digits_from [] e = tt
digits_from (d ∷ ds) e =
    let parts = both _ _ e in
    (ltb-true _ _ parts.0, digits_from ds parts.1)

digits_back : (ds : List ℕ) → AllDigits 10 ds → list_all (λ d. nat_lt (digit_value d) 10) ds ≡ true
digits_back [] h = refl
digits_back (d ∷ ds) h = rw (lt-ltb (digit_value d) 10 h.0) (digits_back ds h.1)

fits_from : (z : ℤ) → fits_i64 z ≡ true → FitsSigned w64 z
fits_from (pos n) e = record { sfits = ltb-true _ _ e }
fits_from (negsuc n) e = record { sfits = ltb-true _ _ e }

fits_back : (z : ℤ) → FitsSigned w64 z → fits_i64 z ≡ true
fits_back (pos n) h = lt-ltb _ _ h.sfits
fits_back (negsuc n) h = lt-ltb _ _ h.sfits

numeral_from : (ds : List ℕ) → is_numeral ds ≡ true → IsNumeral 10 ds
numeral_from ds e =
    let parts = both _ _ e in
    (ltb-true _ _ parts.0, digits_from ds parts.1)

numeral_back : (ds : List ℕ) → IsNumeral 10 ds → is_numeral ds ≡ true
numeral_back ds h = rw (lt-ltb _ _ h.0) (digits_back ds h.1)

pub moment_read : (text : List ℕ) {E : Type 0} (r : Result ℤ E) → ParsesSigned w64 10 text r
    → result_ok r ≡ moment_in text
moment_read text (Ok z) h =
    rw (numeral_back _ h.0.0, fits_back _ h.0.1) (ap Some h.1)
moment_read text {E} (Err error) h = by (is_numeral (without_leading_sign text) && fits_i64 (signed_digits_value 10 text)) refl
  where
    by : (b : Bool) → (is_numeral (without_leading_sign text) && fits_i64 (signed_digits_value 10 text)) ≡ b
        → result_ok {T = ℤ} {E = E} (Err error) ≡ moment_in text
    by true e = let parts = both _ _ e in absurd (h (numeral_from _ parts.0, fits_from _ parts.1))
    by false e = rw e refl
