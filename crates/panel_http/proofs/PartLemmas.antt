-- What a parameter takes of an ASCII target is ASCII, so that it can be reported as a text.
use Rattle.std.proofs.Common.{◌≡◌, ◌-◌, ◌&&◌, ℕ, Bool, true, false, cond, refl, subst, ap}
use Rattle.std.proofs.Common.{List, [], ◌∷◌, length, take, drop, leb, ltb, Some}
use Rattle.std.specs.List.{list_all}
use Rattle.std.specs.Str.{IsAscii}
use Rattle.std.proofs.lemmas.Bool.{ltb-true}
use Rattle.std.proofs.lemmas.Str.{IsAscii-drop, IsAscii-take, IsUtf8-from_ascii}
use Rattle.std.proofs.lemmas.Str.Ascii.{IsAscii-cons, IsAscii-nil}
use Rattle.matchit.specs.Params.{Shows, part_of, walk}
use Rattle.panel_http.specs.Routes.{is_ascii_byte, part_taken}
use Rattle.points.specs.Texts.{Text}

ascii-cons : (byte : ℕ) (bytes : List ℕ) (small : Bool) → ltb byte 128 ≡ small → (small && list_all is_ascii_byte bytes) ≡ true
    → (list_all is_ascii_byte bytes ≡ true → IsAscii bytes) → IsAscii (byte ∷ bytes)
ascii-cons byte bytes true small all more = IsAscii-cons byte bytes (ltb-true byte 128 small) (more all)
ascii-cons byte bytes false small all more = absurd (cc all)

ascii-all : (bytes : List ℕ) → list_all is_ascii_byte bytes ≡ true → IsAscii bytes
ascii-all [] all = IsAscii-nil
ascii-all (byte ∷ bytes) all = ascii-cons byte bytes (ltb byte 128) refl all (ascii-all bytes)

ascii-part : (bytes : List ℕ) (start end : ℕ) → IsAscii bytes → IsAscii (part_of bytes start end)
ascii-part bytes start end ascii = by (leb start end && leb end (length bytes))
  where
    by : (fits : Bool) → IsAscii (cond fits (take (end - start) (drop start bytes)) [])
    by true = IsAscii-take (drop start bytes) (end - start) (IsAscii-drop bytes start ascii)
    by false = IsAscii-nil

abbrev part_or_none : List (Text × Text) → Text
part_or_none [] = []
part_or_none (pair ∷ rest) = pair.1

ascii-walk : (pattern text target : Text) (names : List (ℕ × ℕ)) → IsAscii target
    → IsAscii (part_or_none (walk pattern text target names 0 0))
ascii-walk pattern text target [] ascii = IsAscii-nil
ascii-walk pattern text target (name ∷ names) ascii = ascii-part target _ _ ascii

-- the first part that a match tells is the parameter
pub part-reported : (pattern text target : Text) (names : List (ℕ × ℕ)) (pair : Text × Text) (rest : List (Text × Text)) (reported : Text)
    → list_all is_ascii_byte target ≡ true → walk pattern text target names 0 0 ≡ pair ∷ rest → Shows pair.1 reported
    → Some reported ≡ part_taken target (walk pattern text target names 0 0)
part-reported pattern text target names pair rest reported all same shows =
    let ascii : IsAscii pair.1 = subst IsAscii (ap part_or_none same) (ascii-walk pattern text target names (ascii-all target all)) in
    rw (all, same) (ap Some (shows (IsUtf8-from_ascii pair.1 ascii)))
