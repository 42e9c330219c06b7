-- The last line end of bytes, with a byte more.
use Rattle.std.proofs.Common.{◌≡◌, ℕ, ◌==◌, false, List, [], ◌∷◌, ◌++◌, length, Option, Some, None, refl, ap, ◌∙◌, append_assoc}
use Rattle.std.proofs.lemmas.List.Folds.{list_any-append}
use Rattle.delivery_json.specs.LineEnds.{IsLastEnd, IsLine}

IsLine-push : (bytes : List ℕ) (byte : ℕ) → IsLine bytes → (byte == 10) ≡ false → IsLine (bytes ++ byte ∷ [])
IsLine-push bytes byte none other =
    list_any-append (λ b. b == 10) bytes (byte ∷ []) ∙ rw (none, other) refl

-- a byte more that is a line end, or none
pub last-here : (bytes : List ℕ) (byte index : ℕ) → byte ≡ 10 → length bytes ≡ index → IsLastEnd (Some index) (bytes ++ byte ∷ [])
last-here bytes byte index is size = (bytes, [], ap (λ b. bytes ++ b ∷ []) is, size, refl)

pub last-stays : (last : Option ℕ) (bytes : List ℕ) (byte : ℕ) → (byte == 10) ≡ false → IsLastEnd last bytes
    → IsLastEnd last (bytes ++ byte ∷ [])
last-stays None bytes byte other none = IsLine-push bytes byte none other
last-stays (Some index) bytes byte other (before, after, is, size, none) =
    (before, after ++ byte ∷ [], ap (λ b. b ++ byte ∷ []) is ∙ append_assoc before (10 ∷ after) (byte ∷ []), size, IsLine-push after byte none other)
