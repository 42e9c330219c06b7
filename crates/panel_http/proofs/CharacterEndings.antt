-- What can follow a beginning of a text, so that its last character is whole: one of six short texts.
use Rattle.std.proofs.Common.{◌≡◌, ◌∙◌, ◌<◌, ◌≤◌, ◌+◌, ◌*◌, ◌/◌, ◌%◌, ◌⊎◌, inl, inr, ℕ, List, [], ◌∷◌, ◌++◌, length, refl, arith, sym, ap, subst, append_assoc, append-nil, length-append, IsUtf8, Bool, true, false, ◌&&◌}
use Rattle.std.proofs.lemmas.Str.{IsUtf8-append, IsUtf8-encode, IsUtf8-nil}
use Rattle.std.proofs.lemmas.Bool.{cases_lt}
use lib.Utf8.{encode, encodes, scalar, scalars, scalar_cases}
use Rattle.panel_http.specs.Endings.{IsCharacterEnd}
use Rattle.panel_http.proofs.SectionEndings.{Inside, Past, cut}

-- ---- the characters whose last bytes are the least that there are

scalar-low : (c : ℕ) → c < 55296 → scalar c ≡ true
scalar-low c low = grind arith

scalar-high : (c : ℕ) → 57344 ≤ c → c < 1114112 → scalar c ≡ true
scalar-high c least most = grind arith

two : (q : ℕ) → 2 ≤ q → q < 32 → encode (q * 64) ≡ (192 + q) ∷ 128 ∷ []
unfolding encode
two q least most = grind arith

three-first : (q : ℕ) → 1 ≤ q → q < 16 → encode (q * 4096) ≡ (224 + q) ∷ 128 ∷ 128 ∷ []
unfolding encode
three-first q least most = grind arith

three-second : (q : ℕ) → 32 ≤ q → q < 1024 → encode (q * 64) ≡ (224 + q / 64) ∷ (128 + q % 64) ∷ 128 ∷ []
unfolding encode
three-second q least most = grind arith

four-first : (q : ℕ) → 1 ≤ q → q < 5 → encode (q * 262144) ≡ (240 + q) ∷ 128 ∷ 128 ∷ 128 ∷ []
unfolding encode
four-first q least most = grind arith

four-second : (q : ℕ) → 16 ≤ q → q < 272 → encode (q * 4096) ≡ (240 + q / 64) ∷ (128 + q % 64) ∷ 128 ∷ 128 ∷ []
unfolding encode
four-second q least most = grind arith

four-third : (q : ℕ) → 1024 ≤ q → q < 17408
    → encode (q * 64) ≡ (240 + q / 4096) ∷ (128 + q / 64 % 64) ∷ (128 + q % 64) ∷ 128 ∷ []
unfolding encode
four-third q least most = grind arith

-- ---- the bytes of a character

one-byte : (c : ℕ) → c < 128 → encode c ≡ c ∷ []
unfolding encode
one-byte c most = grind arith

two-bytes : (c : ℕ) → 128 ≤ c → c < 2048 → encode c ≡ (192 + c / 64) ∷ (128 + c % 64) ∷ []
unfolding encode
two-bytes c least most = grind arith

three-bytes : (c : ℕ) → 2048 ≤ c → c < 65536 → encode c ≡ (224 + c / 4096) ∷ (128 + c / 64 % 64) ∷ (128 + c % 64) ∷ []
unfolding encode
three-bytes c least most = grind arith

four-bytes : (c : ℕ) → 65536 ≤ c
    → encode c ≡ (240 + c / 262144) ∷ (128 + c / 4096 % 64) ∷ (128 + c / 64 % 64) ∷ (128 + c % 64) ∷ []
unfolding encode
four-bytes c least = grind arith

and-first : (a b : Bool) → (a && b) ≡ true → a ≡ true
and-first true b both = refl
and-first false b both = absurd (cc both)

and-second : (a b : Bool) → (a && b) ≡ true → b ≡ true
and-second true b both = both
and-second false b both = absurd (cc both)

-- ---- a character that is cut

pub record CharacterEnds (s left : List ℕ) : Type 0 where
  pub ending : List ℕ
  pub is_end : IsCharacterEnd ending
  pub is_text : IsUtf8 (s ++ ending)
  pub short : length ending ≤ length left

by-character : (c : ℕ) (s left ending : List ℕ) → scalar c ≡ true → encode c ≡ s ++ ending → IsCharacterEnd ending
    → length ending ≤ length left → CharacterEnds s left
by-character c s left ending valid is end fits = record {
  ending = ending;
  is_end = end;
  is_text = subst IsUtf8 is (IsUtf8-encode c valid);
  short = fits;
}

none : (s left : List ℕ) → IsUtf8 s → CharacterEnds s left
none s left text = record {
  ending = [];
  is_end = inl refl;
  is_text = subst IsUtf8 (sym (append-nil s)) text;
  short = omega arith;
}

-- the character has ended
ended : (c : ℕ) (s : List ℕ) → scalar c ≡ true → s ++ [] ≡ encode c → CharacterEnds s []
ended c s valid is = none s [] (subst IsUtf8 (sym is ∙ append-nil s) (IsUtf8-encode c valid))

cut-two : (c x : ℕ) (left : List ℕ) → 128 ≤ c → c < 2048 → x ∷ left ≡ encode c → CharacterEnds (x ∷ []) left
cut-two c x left least most is =
    let bytes = is ∙ two-bytes c least most in
    let q = c / 64 in
    let first : x ≡ 192 + q = cc bytes in
    let rest : left ≡ (128 + c % 64) ∷ [] = cc bytes in
    let size = ap length rest in
    by-character (q * 64) (x ∷ []) left (128 ∷ []) (scalar-low (q * 64) (omega arith))
    (two q (omega arith) (omega arith) ∙ ap (λ h. h ∷ 128 ∷ []) (sym first)) (inr (inl refl)) (omega arith)

cut-three-first : (c x : ℕ) (left : List ℕ) → 2048 ≤ c → c < 65536 → scalar c ≡ true → x ∷ left ≡ encode c
    → (c < 4096) ⊎ (4096 ≤ c) → CharacterEnds (x ∷ []) left
unfolding encode
cut-three-first c x left least most valid is (inl low) =
    let bytes = is ∙ three-bytes c least most in
    let first : x ≡ 224 + c / 4096 = cc bytes in
    let lead : 224 + c / 4096 ≡ 224 = omega arith in
    let rest : left ≡ (128 + c / 64 % 64) ∷ (128 + c % 64) ∷ [] = cc bytes in
    let size = ap length rest in
    by-character 2048 (x ∷ []) left (160 ∷ 128 ∷ []) refl (ap (λ h. h ∷ 160 ∷ 128 ∷ []) (sym (first ∙ lead)))
    (inr (inr (inr (inr (inl refl))))) (omega arith)
cut-three-first c x left least most valid is (inr high) =
    let bytes = is ∙ three-bytes c least most in
    let q = c / 4096 in
    let first : x ≡ 224 + q = cc bytes in
    let rest : left ≡ (128 + c / 64 % 64) ∷ (128 + c % 64) ∷ [] = cc bytes in
    let size = ap length rest in
    by-character (q * 4096) (x ∷ []) left (128 ∷ 128 ∷ []) (scalar-of-4096 q (omega arith))
    (three-first q (omega arith) (omega arith) ∙ ap (λ h. h ∷ 128 ∷ 128 ∷ []) (sym first)) (inr (inr (inl refl))) (omega arith)
  where
    scalar-of-4096 : (q : ℕ) → q < 16 → scalar (q * 4096) ≡ true
    scalar-of-4096 q most = grind arith

cut-three-second : (c x y : ℕ) (left : List ℕ) → 2048 ≤ c → c < 65536 → scalar c ≡ true → x ∷ y ∷ left ≡ encode c
    → CharacterEnds (x ∷ y ∷ []) left
cut-three-second c x y left least most valid is =
    let bytes = is ∙ three-bytes c least most in
    let q = c / 64 in
    let first : x ≡ 224 + c / 4096 = cc bytes in
    let second : y ≡ 128 + q % 64 = cc bytes in
    let high : c / 4096 ≡ q / 64 = omega arith in
    let rest : left ≡ (128 + c % 64) ∷ [] = cc bytes in
    let size = ap length rest in
    by-character (q * 64) (x ∷ y ∷ []) left (128 ∷ []) (scalar-of c valid)
    (three-second q (omega arith) (omega arith) ∙ (cc (first, second, high))) (inr (inl refl)) (omega arith)
  where
    scalar-by : (c : ℕ) → (c < 55296) ⊎ ((57344 ≤ c) × (c < 1114112)) → scalar (c / 64 * 64) ≡ true
    scalar-by c (inl low) = scalar-low (c / 64 * 64) (omega arith)
    scalar-by c (inr high) = let least = high.0 in let most = high.1 in scalar-high (c / 64 * 64) (omega arith) (omega arith)

    scalar-of : (c : ℕ) → scalar c ≡ true → scalar (c / 64 * 64) ≡ true
    scalar-of c valid = scalar-by c (scalar_cases c valid)

most-of : (c : ℕ) → scalar c ≡ true → c < 1114112
most-of c valid = by (scalar_cases c valid)
  where
    by : (c < 55296) ⊎ ((57344 ≤ c) × (c < 1114112)) → c < 1114112
    by (inl low) = omega arith
    by (inr high) = high.1

cut-four-first : (c x : ℕ) (left : List ℕ) → 65536 ≤ c → c < 1114112 → x ∷ left ≡ encode c
    → (c < 262144) ⊎ (262144 ≤ c) → CharacterEnds (x ∷ []) left
unfolding encode
cut-four-first c x left least most is (inl low) =
    let bytes = is ∙ four-bytes c least in
    let first : x ≡ 240 + c / 262144 = cc bytes in
    let lead : 240 + c / 262144 ≡ 240 = omega arith in
    let rest : left ≡ (128 + c / 4096 % 64) ∷ (128 + c / 64 % 64) ∷ (128 + c % 64) ∷ [] = cc bytes in
    let size = ap length rest in
    by-character 131072 (x ∷ []) left (160 ∷ 128 ∷ 128 ∷ []) refl (ap (λ h. h ∷ 160 ∷ 128 ∷ 128 ∷ []) (sym (first ∙ lead)))
    (inr (inr (inr (inr (inr refl))))) (omega arith)
cut-four-first c x left least most is (inr high) =
    let bytes = is ∙ four-bytes c least in
    let q = c / 262144 in
    let first : x ≡ 240 + q = cc bytes in
    let rest : left ≡ (128 + c / 4096 % 64) ∷ (128 + c / 64 % 64) ∷ (128 + c % 64) ∷ [] = cc bytes in
    let size = ap length rest in
    by-character (q * 262144) (x ∷ []) left (128 ∷ 128 ∷ 128 ∷ []) (scalar-high (q * 262144) (omega arith) (omega arith))
    (four-first q (omega arith) (omega arith) ∙ ap (λ h. h ∷ 128 ∷ 128 ∷ 128 ∷ []) (sym first)) (inr (inr (inr (inl refl)))) (omega arith)

cut-four-second : (c x y : ℕ) (left : List ℕ) → 65536 ≤ c → c < 1114112 → x ∷ y ∷ left ≡ encode c
    → CharacterEnds (x ∷ y ∷ []) left
cut-four-second c x y left least most is =
    let bytes = is ∙ four-bytes c least in
    let q = c / 4096 in
    let first : x ≡ 240 + c / 262144 = cc bytes in
    let second : y ≡ 128 + q % 64 = cc bytes in
    let high : c / 262144 ≡ q / 64 = omega arith in
    let rest : left ≡ (128 + c / 64 % 64) ∷ (128 + c % 64) ∷ [] = cc bytes in
    let size = ap length rest in
    by-character (q * 4096) (x ∷ y ∷ []) left (128 ∷ 128 ∷ []) (scalar-high (q * 4096) (omega arith) (omega arith))
    (four-second q (omega arith) (omega arith) ∙ (cc (first, second, high))) (inr (inr (inl refl))) (omega arith)

cut-four-third : (c x y z : ℕ) (left : List ℕ) → 65536 ≤ c → c < 1114112 → x ∷ y ∷ z ∷ left ≡ encode c
    → CharacterEnds (x ∷ y ∷ z ∷ []) left
cut-four-third c x y z left least most is =
    let bytes = is ∙ four-bytes c least in
    let q = c / 64 in
    let first : x ≡ 240 + c / 262144 = cc bytes in
    let second : y ≡ 128 + c / 4096 % 64 = cc bytes in
    let third : z ≡ 128 + q % 64 = cc bytes in
    let high : c / 262144 ≡ q / 4096 = omega arith in
    let middle : c / 4096 ≡ q / 64 = omega arith in
    let rest : left ≡ (128 + c % 64) ∷ [] = cc bytes in
    let size = ap length rest in
    by-character (q * 64) (x ∷ y ∷ z ∷ []) left (128 ∷ []) (scalar-high (q * 64) (omega arith) (omega arith))
    (four-third q (omega arith) (omega arith) ∙ (cc (first, second, third, high, middle))) (inr (inl refl)) (omega arith)

-- ---- a text that is cut

in-character : (c : ℕ) (s left : List ℕ) → scalar c ≡ true → s ++ left ≡ encode c → CharacterEnds s left
in-character c s [] valid is = ended c s valid is
in-character c [] (x ∷ left) valid is = none [] (x ∷ left) IsUtf8-nil
in-character c (x ∷ s) (y ∷ left) valid is = by (cases_lt c 128) (cases_lt c 2048) (cases_lt c 65536)
  where
    three : (s : List ℕ) → x ∷ (s ++ (y ∷ left)) ≡ encode c → 2048 ≤ c → c < 65536 → CharacterEnds (x ∷ s) (y ∷ left)
    three [] is least most = cut-three-first c x (y ∷ left) least most valid is (cases_lt c 4096)
    three (z ∷ []) is least most = cut-three-second c x z (y ∷ left) least most valid is
    three (z ∷ w ∷ s) is least most =
        let size = ap length (is ∙ three-bytes c least most) in
        let sum = length-append s (y ∷ left) in absurd (omega arith)

    four : (s : List ℕ) → x ∷ (s ++ (y ∷ left)) ≡ encode c → 65536 ≤ c → CharacterEnds (x ∷ s) (y ∷ left)
    four [] is least = cut-four-first c x (y ∷ left) least (most-of c valid) is (cases_lt c 262144)
    four (z ∷ []) is least = cut-four-second c x z (y ∷ left) least (most-of c valid) is
    four (z ∷ w ∷ []) is least = cut-four-third c x z w (y ∷ left) least (most-of c valid) is
    four (z ∷ w ∷ v ∷ s) is least =
        let size = ap length (is ∙ four-bytes c least) in
        let sum = length-append s (y ∷ left) in absurd (omega arith)

    two-of : (s : List ℕ) → x ∷ (s ++ (y ∷ left)) ≡ encode c → 128 ≤ c → c < 2048 → CharacterEnds (x ∷ s) (y ∷ left)
    two-of [] is least most = cut-two c x (y ∷ left) least most is
    two-of (z ∷ s) is least most =
        let size = ap length (is ∙ two-bytes c least most) in
        let sum = length-append s (y ∷ left) in absurd (omega arith)

    by : (c < 128) ⊎ (128 ≤ c) → (c < 2048) ⊎ (2048 ≤ c) → (c < 65536) ⊎ (65536 ≤ c) → CharacterEnds (x ∷ s) (y ∷ left)
    by (inl most) second third =
        let size = ap length (is ∙ one-byte c most) in
        let sum = length-append s (y ∷ left) in absurd (omega arith)
    by (inr least) (inl most) third = two-of s is least most
    by (inr least) (inr more) (inl most) = three s is more most
    by (inr least) (inr more) (inr most) = four s is most

-- a character and then a text that is cut
past-character : (c : ℕ) (s more left : List ℕ) → scalar c ≡ true → s ≡ encode c ++ more → CharacterEnds more left → CharacterEnds s left
past-character c s more left valid is then = record {
  ending = then.ending;
  is_end = then.is_end;
  is_text = subst IsUtf8 (sym (ap (λ l. l ++ then.ending) is ∙ append_assoc (encode c) more then.ending))
      (IsUtf8-append (encode c) (more ++ then.ending) (IsUtf8-encode c valid) then.is_text);
  short = then.short;
}

-- a character that is cut, before more of them
before-others : (c : ℕ) (cs s left rest : List ℕ) → left ≡ rest ++ encodes cs → CharacterEnds s rest → CharacterEnds s left
before-others c cs s left rest left-is then =
    let short = then.short in
    let all = ap length left-is ∙ length-append rest (encodes cs) in
    record { ending = then.ending; is_end = then.is_end; is_text = then.is_text; short = omega arith }

by-cut : (c : ℕ) (cs s left : List ℕ) → scalar c ≡ true → ((more : List ℕ) → more ++ left ≡ encodes cs → CharacterEnds more left)
    → Inside s left (encode c) (encodes cs) ⊎ Past s left (encode c) (encodes cs) → CharacterEnds s left
by-cut c cs s left valid next (inr (more, is, rest)) = past-character c s more left valid is (next more rest)
by-cut c cs s left valid next (inl (rest, is, left-is)) = before-others c cs s left rest left-is (in-character c s rest valid is)

in-text : (cs : List ℕ) (s left : List ℕ) → scalars cs ≡ true → s ++ left ≡ encodes cs → CharacterEnds s left
in-text [] [] left valid same = none [] left IsUtf8-nil
in-text [] (x ∷ s) left valid same = absurd (cc same)
in-text (c ∷ cs) s left valid same =
    by-cut c cs s left (and-first (scalar c) (scalars cs) valid)
    (λ more rest. in-text cs more left (and-second (scalar c) (scalars cs) valid) rest)
    (cut s left (encode c) (encodes cs) same)

pub character-ends : (s left : List ℕ) → IsUtf8 (s ++ left) → CharacterEnds s left
character-ends s left (cs, (valid, is)) = in-text cs s left valid (sym is)
