-- What may follow a beginning of a head.
use Rattle.std.specs.Prelude.{◌≡◌, ◌⊎◌, ℕ, List, [], ◌∷◌, ◌++◌, codes}
use Rattle.httparse.specs.Grammar.{RequestHead}
use Rattle.panel_http.specs.Heads.{IsHead}

-- some bytes can follow, so that they begin with a head
abbrev pub MayBegin : List ℕ → Type 0
MayBegin bytes = (more : List ℕ) × (head : RequestHead) × (rest : List ℕ) × IsHead (bytes ++ more) head rest

abbrev pub IsEndOf : List ℕ → List ℕ → Type 0
IsEndOf text ending = (front : List ℕ) × (text ≡ front ++ ending)

-- The texts of which an end makes a head of each beginning of one: after an empty line, a whole short head; after a
-- field's name; and after a target whose last character is cut, which wants bytes of its own after 224 and 240.
abbrev pub plain : List ℕ
plain = codes "\nA / HTTP/1.0\n\n"

abbrev pub of_field : List ℕ
of_field = codes ":\n\n"

abbrev pub of_target : List ℕ
of_target = 128 ∷ 128 ∷ 128 ∷ codes " HTTP/1.0\n\n"

abbrev pub after_224 : List ℕ
after_224 = 160 ∷ 128 ∷ codes " HTTP/1.0\n\n"

abbrev pub after_240 : List ℕ
after_240 = 160 ∷ 128 ∷ 128 ∷ codes " HTTP/1.0\n\n"

abbrev pub IsEnding : List ℕ → Type 0
IsEnding ending = IsEndOf plain ending ⊎ (IsEndOf of_field ending ⊎ (IsEndOf of_target ending
    ⊎ ((ending ≡ after_224) ⊎ (ending ≡ after_240))))

-- what lacks at the end of a text whose last character is cut
abbrev pub IsCharacterEnd : List ℕ → Type 0
IsCharacterEnd ending = (ending ≡ []) ⊎ ((ending ≡ 128 ∷ []) ⊎ ((ending ≡ 128 ∷ 128 ∷ []) ⊎ ((ending ≡ 128 ∷ 128 ∷ 128 ∷ [])
    ⊎ ((ending ≡ 160 ∷ 128 ∷ []) ⊎ (ending ≡ 160 ∷ 128 ∷ 128 ∷ [])))))
