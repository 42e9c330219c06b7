-- How a name is held, and that its text tells how.
use Rattle.std.specs.Prelude.{◌≡◌, ℕ, zero, suc, ◌-◌, ◌≤◌, List, ◌++◌, take, drop, length}
use Rattle.std.proofs.Common.{ap, ◌∙◌, arith, replicate}
use Rattle.std.proofs.lemmas.List.{length-take-le}
use Rattle.points.specs.Name.{IsName}

-- a text in 32 bytes: zeros follow it
abbrev pub padded : List ℕ → List ℕ
padded text = text ++ replicate (32 - length text) 0

-- bytes hold the name of their first `length` ones
pub record IsHeld (bytes : List ℕ) (size : ℕ) : Type 0 where
  pub room : length bytes ≡ 32
  pub short : size ≤ 32
  pub is_padded : bytes ≡ padded (take size bytes)
  pub is_name : IsName (take size bytes)

pub IsHeld-size : (bytes : List ℕ) (size : ℕ) → IsHeld bytes size → length (take size bytes) ≡ size
IsHeld-size bytes size held = length-take-le size bytes (omega (arith, held.room, held.short))

drop-replicate : {A : Type 0} (n count : ℕ) (a : A) → drop n (replicate count a) ≡ replicate (count - n) a
drop-replicate zero count a = let same : count ≡ count - 0 = omega arith in ap (λ k. replicate k a) same
drop-replicate (suc n) zero a = let none : 0 ≡ 0 - suc n = omega arith in ap (λ k. replicate k a) none
drop-replicate (suc n) (suc count) a = let less : count - n ≡ suc count - suc n = omega arith in
    drop-replicate n count a ∙ ap (λ k. replicate k a) less

-- the text over zeros
pub padded-over : (text copied : List ℕ) → copied ≡ text → copied ++ drop (length text) (replicate 32 0) ≡ padded text
padded-over text copied same = ap (λ bytes. bytes ++ drop (length text) (replicate 32 0)) same
    ∙ ap (λ zeros. text ++ zeros) (drop-replicate (length text) 32 0)
