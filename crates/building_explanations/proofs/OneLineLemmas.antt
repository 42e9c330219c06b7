-- A text that stays one line while shown characters are put last.
use Rattle.std.proofs.Common.{◌≡◌, ◌∙◌, ℕ, true, ◌&&◌, List, [], ◌∷◌, ◌++◌, sym, ap, subst, Result, Ok, Err, append-nil}
use Rattle.std.specs.Prelude.{OnOk, encode_utf8, encode_utf8_all, if◌then◌else◌}
use Rattle.std.specs.Cmp.{first_so, second_so}
use Rattle.std.specs.List.{list_all}
use Rattle.std.specs.Result.{is_ok}
use Rattle.std.proofs.lemmas.List.Folds.{list_all-append}
use Rattle.std.proofs.lemmas.Str.{encodes-append}
use Rattle.building_explanations.specs.OneLine.{IsOneLine, is_shown}

-- of characters that are shown the first is, and so are the others
pub first_is_shown : (c : ℕ) (cs rest : List ℕ) → rest ≡ c ∷ cs → list_all is_shown rest ≡ true → is_shown c ≡ true
first_is_shown c cs rest e h = first_so (is_shown c) (list_all is_shown cs) (ap (list_all is_shown) (sym e) ∙ h)

pub others_are_shown : (c : ℕ) (cs rest : List ℕ) → rest ≡ c ∷ cs → list_all is_shown rest ≡ true → list_all is_shown cs ≡ true
others_are_shown c cs rest e h = second_so (is_shown c) (list_all is_shown cs) (ap (list_all is_shown) (sym e) ∙ h)

pub IsOneLine-push : (line : List ℕ) (c : ℕ) → is_shown c ≡ true → IsOneLine line → IsOneLine (line ++ encode_utf8 c)
IsOneLine-push line c shown held = record {
  characters = held.characters ++ c ∷ [];
  spelled = encodes-append held.characters (c ∷ []) ∙ (ap (λ bytes. encode_utf8_all held.characters ++ bytes) (append-nil (encode_utf8 c))
      ∙ ap (λ bytes. bytes ++ encode_utf8 c) held.spelled);
  are_shown = list_all-append is_shown held.characters (c ∷ [])
      ∙ (ap (λ b. b && (is_shown c && true)) held.are_shown ∙ ap (λ b. b && true) shown);
}

-- a line after a character that is shown was put last, if it was
pub IsOneLine-pushed : {T E : Type 0} (r : Result T E) (old new : List ℕ) (c : ℕ)
    → new ≡ (if is_ok r then old ++ encode_utf8 c else old) → is_shown c ≡ true → OnOk r (IsOneLine old → IsOneLine new)
IsOneLine-pushed (Ok x) old new c e shown = λ held. subst IsOneLine (sym e) (IsOneLine-push old c shown held)
IsOneLine-pushed (Err x) old new c e shown = tt
