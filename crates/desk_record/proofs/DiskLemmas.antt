-- What a disk's calls do at the end of a file.
use Rattle.std.proofs.Common.{◌≡◌, ℕ, suc, ◌+◌, ◌-◌, ◌<◌, ◌≤◌, List, [], ◌∷◌, ◌++◌, length, take, slice_index, length-append, refl, sym, ap, ◌∙◌, arith, rules, inl, inr}
use Rattle.std.proofs.lemmas.Bool.{cases_lt}
use Rattle.std.proofs.lemmas.List.{places}
use Rattle.sqlite_disk.specs.Disk.{Cut, Holds, Torn}

pub same-bytes : (xs ys : List ℕ) → length xs ≡ length ys → ((i : ℕ) → i < length xs → slice_index xs i ≡ slice_index ys i) → xs ≡ ys
same-bytes [] [] size each = refl
same-bytes [] (y ∷ ys) size each = absurd (omega (arith, size))
same-bytes (x ∷ xs) [] size each = absurd (omega (arith, size))
same-bytes (x ∷ xs) (y ∷ ys) size each =
    let first : x ≡ y = each 0 (omega arith) in
    let rest = same-bytes xs ys (omega (arith, size)) (λ i low. each (suc i) (omega (arith, low))) in
    λ at. first at ∷ rest at

-- a write at the end leaves what stood before it
pub torn-front : (old new : List ℕ) (size : ℕ) → Torn (length old) size old new → take (length old) new ≡ old
torn-front old new size torn =
    let long : length old ≤ length new = torn.no_shorter in
    let sized : length (take (length old) new) ≡ length old = search (rules, places) in
    same-bytes (take (length old) new) old sized
    (λ i low.
    let below : i < length old = omega (arith, sized, low) in
    let read : slice_index (take (length old) new) i ≡ slice_index new i = search (rules, places) in
    read ∙ torn.below i below below)

-- one that is done puts its bytes there
pub held-last : (old new text : List ℕ) → Torn (length old) (length text) old new → Holds new (length old) text → new ≡ old ++ text
held-last old new text torn holds =
    let sized : length new ≡ length (old ++ text) = omega (arith, torn.no_longer, torn.no_shorter, holds.within, length-append old text) in
    same-bytes new (old ++ text) sized
    (λ i low. elim (cases_lt i (length old)) [
      | inl early ↦
          let read : slice_index (old ++ text) i ≡ slice_index old i = search (rules, places) in
          torn.below i early early ∙ sym read
      | inr late ↦
          let here : length old + (i - length old) ≡ i = omega arith in
          let within : i - length old < length text = omega (arith, low, sized, length-append old text) in
          let read : slice_index (old ++ text) i ≡ slice_index text (i - length old) = search (rules, places) in
          ap (slice_index new) (sym here) ∙ holds.each (i - length old) within ∙ sym read
    ])

-- a change of the length leaves what stands below both
pub cut-front : (old new : List ℕ) (size : ℕ) → size ≤ length old → Cut size old new → take size new ≡ take size old
cut-front old new size within cut =
    let long : size ≤ length new = omega (arith, cut.no_shorter, within) in
    let sized : length (take size new) ≡ size = search (rules, places) in
    let sized_old : length (take size old) ≡ size = search (rules, places) in
    same-bytes (take size new) (take size old) (sized ∙ sym sized_old)
    (λ i low.
    let below : i < size = omega (arith, sized, low) in
    let read : slice_index (take size new) i ≡ slice_index new i = search (rules, places) in
    let read_old : slice_index (take size old) i ≡ slice_index old i = search (rules, places) in
    read ∙ cut.below i (omega (arith, below, within)) below ∙ sym read_old)

-- one that is done leaves that alone
pub cut-done : (old new : List ℕ) (size : ℕ) → size ≤ length old → Cut size old new → length new ≡ size → new ≡ take size old
cut-done old new size within cut sized =
    sym (take-all-of new size sized) ∙ cut-front old new size within cut
  where
    take-all-of : (xs : List ℕ) (n : ℕ) → length xs ≡ n → take n xs ≡ xs
    take-all-of xs n e = search (rules, places)
