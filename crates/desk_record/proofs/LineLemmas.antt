-- Whole lines, and what stands after them.
use Rattle.std.proofs.Common.{◌≡◌, ◌⊎◌, ℕ, zero, suc, ◌+◌, ◌-◌, ◌≤◌, ◌==◌, ◌||◌, true, false, List, [], ◌∷◌, ◌++◌, length, take}
use Rattle.std.proofs.Common.{refl, sym, ap, ◌∙◌, append_assoc, arith, inl, inr}
use Rattle.std.specs.List.{list_any}
use Rattle.std.proofs.lemmas.Bool.{cases_Bool, false≢true}
use Rattle.std.proofs.lemmas.List.{append-nil}
use Rattle.std.proofs.Math.Seq.{take-append-add}
use Rattle.desk_record.specs.Lines.{IsBetween, IsWhole, whole_lines, with_first}
use Rattle.delivery_json.specs.LineEnds.{IsLine}

-- ---- bytes behind whole lines

with_first-append : (byte : ℕ) (lines more : List (List ℕ)) → (lines ≡ [] → ⊥)
    → with_first byte (lines ++ more) ≡ with_first byte lines ++ more
with_first-append byte [] more some = absurd (some refl)
with_first-append byte (line ∷ lines) more some = refl

with_first-some : (byte : ℕ) (lines : List (List ℕ)) → (lines ≡ [] → ⊥) → with_first byte lines ≡ [] → ⊥
with_first-some byte [] some none = some refl
with_first-some byte (line ∷ lines) some none = cc

ended-some : (before : List ℕ) → whole_lines (before ++ 10 ∷ []) ≡ [] → ⊥
ended-some [] none = cc
ended-some (byte ∷ before) none = elim (cases_Bool (byte == 10)) [
  | inl ends ↦ let is_none = rw ends at none in cc
  | inr within ↦ with_first-some byte (whole_lines (before ++ 10 ∷ [])) (ended-some before) (rw within at none)
]

ended-append : (before more : List ℕ)
    → whole_lines ((before ++ 10 ∷ []) ++ more) ≡ whole_lines (before ++ 10 ∷ []) ++ whole_lines more
ended-append [] more = refl
ended-append (byte ∷ before) more = elim (cases_Bool (byte == 10)) [
  | inl ends ↦ rw ends (ap (λ lines. [] ∷ lines) (ended-append before more))
  | inr within ↦ rw within
      (ap (with_first byte) (ended-append before more)
      ∙ with_first-append byte (whole_lines (before ++ 10 ∷ [])) (whole_lines more) (ended-some before))
]

pub whole-append : (bytes more : List ℕ) → IsWhole bytes → whole_lines (bytes ++ more) ≡ whole_lines bytes ++ whole_lines more
whole-append bytes more (inl none) = rw none refl
whole-append bytes more (inr (before, ended)) = rw ended (ended-append before more)

-- one line more, which stands last
pub IsWhole-more : (bytes line : List ℕ) → IsWhole (bytes ++ (line ++ 10 ∷ []))
IsWhole-more bytes line = inr (bytes ++ line, sym (append_assoc bytes line (10 ∷ [])))

-- ---- a line

later : (byte : ℕ) (bytes : List ℕ) → (byte == 10) ≡ false → IsLine (byte ∷ bytes) → IsLine bytes
later byte bytes within one = sym (ap (λ first. first || list_any (λ b. b == 10) bytes) within) ∙ one

no-end : (byte : ℕ) (bytes : List ℕ) → (byte == 10) ≡ true → IsLine (byte ∷ bytes) → ⊥
no-end byte bytes ends one = false≢true (sym one ∙ ap (λ first. first || list_any (λ b. b == 10) bytes) ends)

pub whole_lines-one : (line : List ℕ) → IsLine line → whole_lines (line ++ 10 ∷ []) ≡ line ∷ []
whole_lines-one [] one = refl
whole_lines-one (byte ∷ line) one = elim (cases_Bool (byte == 10)) [
  | inl ends ↦ absurd (no-end byte line ends one)
  | inr within ↦ rw within (ap (with_first byte) (whole_lines-one line (later byte line within one)))
]

-- bytes without a line end are no line
pub whole_lines-none : (bytes : List ℕ) → IsLine bytes → whole_lines bytes ≡ []
whole_lines-none [] one = refl
whole_lines-none (byte ∷ bytes) one = elim (cases_Bool (byte == 10)) [
  | inl ends ↦ absurd (no-end byte bytes ends one)
  | inr within ↦ rw within (ap (with_first byte) (whole_lines-none bytes (later byte bytes within one)))
]

end-beginning : (count : ℕ) → whole_lines (take (suc count) (10 ∷ [])) ≡ [] ∷ []
end-beginning zero = refl
end-beginning (suc count) = refl

-- of a line with its end nothing is a line but the whole
whole_lines-beginning : (line : List ℕ) (count : ℕ) → IsLine line
    → (whole_lines (take count (line ++ 10 ∷ [])) ≡ []) ⊎ (whole_lines (take count (line ++ 10 ∷ [])) ≡ line ∷ [])
whole_lines-beginning line zero one = inl refl
whole_lines-beginning [] (suc count) one = inr (end-beginning count)
whole_lines-beginning (byte ∷ line) (suc count) one = elim (cases_Bool (byte == 10)) [
  | inl ends ↦ absurd (no-end byte line ends one)
  | inr within ↦ elim (whole_lines-beginning line count (later byte line within one)) [
    | inl none ↦ inl (rw within (ap (with_first byte) none))
    | inr whole ↦ inr (rw within (ap (with_first byte) whole))
  ]
]

-- ---- whole lines, and a beginning of one line more

cut-more : (bytes more left : List ℕ) (count : ℕ) → length bytes ≤ count → left ≡ take count (bytes ++ more)
    → left ≡ bytes ++ take (count - length bytes) more
cut-more bytes more left count least is =
    let sum : count ≡ length bytes + (count - length bytes) = omega arith in
    is ∙ ap (λ n. take n (bytes ++ more)) sum ∙ take-append-add bytes more (count - length bytes)

-- what is left of whole lines and one line more tells the same lines, or that line too
pub between-lines : (bytes line left : List ℕ) → IsWhole bytes → IsLine line → IsBetween bytes (bytes ++ (line ++ 10 ∷ [])) left
    → (whole_lines left ≡ whole_lines bytes) ⊎ (whole_lines left ≡ whole_lines bytes ++ line ∷ [])
between-lines bytes line left whole one (count, least, is) =
    let begun = take (count - length bytes) (line ++ 10 ∷ []) in
    let lines = ap whole_lines (cut-more bytes (line ++ 10 ∷ []) left count least is) ∙ whole-append bytes begun whole in
    elim (whole_lines-beginning line (count - length bytes) one) [
      | inl none ↦ inl (lines ∙ ap (λ rest. whole_lines bytes ++ rest) none ∙ append-nil (whole_lines bytes))
      | inr all ↦ inr (lines ∙ ap (λ rest. whole_lines bytes ++ rest) all)
    ]
