use Rattle.std.proofs.Common.{◌≡◌, ℕ, true, false, List, Some, None, option_map, Result, Ok, Err, MatchResult, Bor, IsUtf8, refl, sym, ap, ◌∙◌}
use Rattle.std.specs.Result.{result_ok}
use Rattle.std.proofs.lemmas.Str.{IsUtf8-from_is_utf8, is_utf8-from_IsUtf8}
use Rattle.std.specs.Str.{is_utf8}
use Rattle.points.specs.Steps.{where_holds}
use Rattle.points.specs.Texts.{text_of}
use Rattle.points.proofs.texts.text_of.Goals as goal

text_of-utf8 : (bytes : List ℕ) → IsUtf8 bytes → text_of bytes ≡ Some bytes
text_of-utf8 bytes is = ap (λ b. where_holds b bytes) (is_utf8-from_IsUtf8 bytes is)

text_of-other : (bytes : List ℕ) → ¬ (IsUtf8 bytes) → text_of bytes ≡ None
text_of-other bytes not =
    elim (is_utf8 bytes) as (λ b. is_utf8 bytes ≡ b → where_holds b bytes ≡ None) [
      | true ↦ λ e. absurd (not (IsUtf8-from_is_utf8 bytes e))
      | false ↦ λ e. refl
    ] refl

-- what the reading answers is the text, and where it refuses there is none
read_text : {E : Type 0} (Refused : E → Type 0) (bytes : List ℕ) (r : Result (Bor (List ℕ)) E)
    → MatchResult r (λ s. (s.now ≡ bytes) × IsUtf8 bytes) (λ e. ¬ (IsUtf8 bytes) × Refused e)
    → option_map (λ s. s.now) (result_ok r) ≡ text_of bytes
read_text Refused bytes (Ok s) h = ap Some h.0 ∙ sym (text_of-utf8 bytes h.1)
read_text Refused bytes (Err e) h = sym (text_of-other bytes h.0)

pub returns : goal.returns
returns c = ap (option_map (λ s. s.now)) c.ok.ensures.value ∙ read_text _ c.args.bytes.now c.from_utf8.result c.from_utf8.ensures.cases
