-- A name is text.
use Rattle.std.proofs.Common.{◌≡◌, ℕ, ◌<◌, Bool, true, ◌&&◌, List, length, nat_lt, nat_le, arith}
use Rattle.std.specs.List.{list_all}
use Rattle.std.specs.Str.{IsUtf8}
use Rattle.std.proofs.lemmas.Bool.Decides.{nat_tests}
use Rattle.std.proofs.lemmas.List.Elements.{All-weaker}
use Rattle.std.proofs.lemmas.List.Sums.{AllPass-from_list_all}
use Rattle.std.proofs.lemmas.Str.{IsUtf8-from_ascii}
use Rattle.std.proofs.lemmas.Str.Ascii.{IsAscii-from_all}
use Rattle.points.specs.Name.{IsName, is_name_byte}

is_ascii-name_byte : (byte : ℕ) → is_name_byte byte ≡ true → byte < 128
is_ascii-name_byte byte passes = grind (arith, nat_tests)

third : (a b d : Bool) → (a && b && d) ≡ true → d ≡ true
third a b d all = grind arith

pub name_is_utf8 : (text : List ℕ) → IsName text → IsUtf8 text
name_is_utf8 text named = IsUtf8-from_ascii text (IsAscii-from_all text
    (All-weaker (λ byte. is_name_byte byte ≡ true) (λ byte. byte < 128) is_ascii-name_byte text
    (AllPass-from_list_all is_name_byte text (third (nat_lt 0 (length text)) (nat_le (length text) 32) (list_all is_name_byte text)
    named))))
