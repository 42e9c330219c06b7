-- The number that std reads of digits alone.
use Rattle.std.proofs.Common.{◌≡◌, ◌∙◌, ◌<◌, ◌≤◌, ◌^◌, ℕ, true, ◌&&◌, nat_le, nat_lt, leb, [], ◌∷◌, length, Result, refl, sym, ap, arith}
use Rattle.std.specs.Char.{is_ascii_digit}
use Rattle.std.specs.Cmp.{first_so, second_so}
use Rattle.std.specs.List.{list_all}
use Rattle.std.specs.Result.{result_ok}
use Rattle.std.specs.Str.{IsAscii, IsUtf8, all_ascii_digits}
use Rattle.std.specs.Str.Parse.{ParsesUnsigned, digits_value}
use Rattle.std.proofs.lemmas.Bool.{leb-true, ltb-true}
use Rattle.std.proofs.lemmas.Str.{IsUtf8-from_ascii}
use Rattle.std.proofs.lemmas.Str.Ascii.{IsAscii-cons, IsAscii-nil}
use Rattle.std.proofs.lemmas.Str.Parse.{digits_value_short, numerals_by_value, parse_gives, tells_all_ascii_digits}
use Rattle.panel_http.specs.BodyLength.{is_number, number_in}
use Rattle.points.specs.Texts.{Text}

digits-same : (ds : Text) → list_all is_ascii_digit ds ≡ all_ascii_digits ds
digits-same [] = refl
digits-same (d ∷ ds) = ap (λ b. is_ascii_digit d && b) (digits-same ds)

digits-alone : (value : Text) → is_number value ≡ true → list_all is_ascii_digit value ≡ true
digits-alone value number =
    second_so (nat_le (length value) 9) _ (second_so (nat_lt 0 (length value))
    (nat_le (length value) 9 && list_all is_ascii_digit value) number)

digits-ascii : (ds : Text) → list_all is_ascii_digit ds ≡ true → IsAscii ds
digits-ascii [] all = IsAscii-nil
digits-ascii (d ∷ ds) all =
    let low : leb d 57 ≡ true = second_so (leb 48 d) (leb d 57) (first_so (is_ascii_digit d) _ all) in
    let least : d ≤ 57 = leb-true d 57 low in
    IsAscii-cons d ds (omega arith) (digits-ascii ds (second_so (is_ascii_digit d) _ all))

-- digits are text
pub number-text : (value : Text) → is_number value ≡ true → IsUtf8 value
number-text value number = IsUtf8-from_ascii value (digits-ascii value (digits-alone value number))

-- and are read as the number that they write
pub number-read : (value : Text) {E : Type 0} (reported : Result ℕ E) → is_number value ≡ true → ParsesUnsigned 32 10 value reported
    → result_ok reported ≡ number_in value
number-read value reported number parses =
    let rest = second_so (nat_lt 0 (length value)) (nat_le (length value) 9 && list_all is_ascii_digit value) number in
    let some : 0 < length value = ltb-true 0 (length value) (first_so (nat_lt 0 (length value)) _ number) in
    let few : length value ≤ 9 = leb-true (length value) 9 (first_so (nat_le (length value) 9) _ rest) in
    let digits : all_ascii_digits value ≡ true = sym (digits-same value) ∙ digits-alone value number in
    let own = numerals_by_value (λ ds. all_ascii_digits ds ≡ true) tells_all_ascii_digits in
    let small : digits_value 10 value < 10 ^ 9 = digits_value_short own value 9 digits few in
    let fits : digits_value 10 value < 2 ^ 32 = omega arith in
    rw number (ap result_ok (parse_gives own 32 value reported parses digits some fits))
