-- The whole lines of a record, one by one.
use Rattle.std.proofs.Common.{◌≡◌, ◌∙◌, ◌⊎◌, ℕ, ◌==◌, ◌||◌, Bool, true, false, List, [], ◌∷◌, ◌++◌, Option, Some, IfSome, append_assoc, append-nil, refl, sym, ap, subst, inl, inr, cond}
use Rattle.std.specs.Io.BufRead.{DropsThrough, drop_through, take_through}
use Rattle.std.specs.List.{list_any}
use Rattle.std.proofs.lemmas.Bool.{false≢true}
use Rattle.std.proofs.lemmas.Bool.Decides.{Decides-eqb}
use Rattle.delivery_json.specs.LineEnds.{IsLine}
use Rattle.desk_cli.specs.Replay.{lines_of, with_first}
use Rattle.cli_record.specs.Replayed.{CutsEnd, TakesWhole}
use Rattle.cli_record.specs.WholeLines.{IsWhole}

-- ---- the first line

-- the first line of the bytes with its end, and what comes after; or there is no line end
abbrev Splits : List ℕ → Type 0
Splits bytes = ((line : List ℕ) × (rest : List ℕ) × (bytes ≡ line ++ 10 ∷ rest) × IsLine line
    × (take_through 10 bytes ≡ line ++ 10 ∷ []) × (drop_through 10 bytes ≡ rest))
    ⊎ (IsLine bytes × (take_through 10 bytes ≡ bytes))

splits : (bytes : List ℕ) → Splits bytes
splits [] = inr (refl, refl)
splits (x ∷ xs) = first (x == 10) refl (splits xs)
  where
    later : (x == 10) ≡ false → Splits xs → Splits (x ∷ xs)
    later e (inl (line, rest, is, one, taken, dropped)) = inl (
      x ∷ line,
      rest,
      ap (λ l. x ∷ l) is,
      rw e one,
      rw e (ap (λ l. x ∷ l) taken),
      rw e dropped,
    )
    later e (inr (one, taken)) = inr (rw e one, rw e (ap (λ l. x ∷ l) taken))

    first : (is_end : Bool) → (x == 10) ≡ is_end → Splits xs → Splits (x ∷ xs)
    first true e after = inl ([], xs, ap (λ n. n ∷ xs) ((Decides-eqb x 10).0 e), refl, rw e (ap (λ n. n ∷ []) ((Decides-eqb x 10).0 e)), rw e refl)
    first false e after = later e after

has_end : (line rest : List ℕ) → list_any (λ byte. byte == 10) (line ++ 10 ∷ rest) ≡ true
has_end [] rest = refl
has_end (x ∷ line) rest = first (x == 10) refl (has_end line rest)
  where
    first : (is_end : Bool) → (x == 10) ≡ is_end → list_any (λ byte. byte == 10) (line ++ 10 ∷ rest) ≡ true
        → list_any (λ byte. byte == 10) ((x ∷ line) ++ 10 ∷ rest) ≡ true
    first true e later = rw e refl
    first false e later = rw e later

no_end : (x : ℕ) (ys : List ℕ) → [] ≡ ys ++ x ∷ [] → ⊥
no_end x [] is = cc
no_end x (y ∷ ys) is = cc

same_front : (xs ys : List ℕ) → xs ++ 10 ∷ [] ≡ ys ++ 10 ∷ [] → xs ≡ ys
same_front [] [] is = refl
same_front [] (y ∷ ys) is = absurd (no_end 10 ys (let tails : [] ≡ ys ++ 10 ∷ [] = cc in tails))
same_front (x ∷ xs) [] is = absurd (no_end 10 xs (let tails : [] ≡ xs ++ 10 ∷ [] = cc in tails))
same_front (x ∷ xs) (y ∷ ys) is =
    let heads : x ≡ y = cc in
    let tails : xs ++ 10 ∷ [] ≡ ys ++ 10 ∷ [] = cc in
    ap (λ n. n ∷ xs) heads ∙ ap (λ l. y ∷ l) (same_front xs ys tails)

-- what a read up to a line end gives
pub takes-whole : (left after : Option (List ℕ)) (bytes read line : List ℕ) (is_whole : Bool) → left ≡ Some bytes
    → IfSome left (λ xs. read ≡ take_through 10 xs) → DropsThrough left after 10 → CutsEnd read is_whole line
    → TakesWhole bytes is_whole line after
takes-whole left after bytes read line is_whole left_is reads drops cuts = by is_whole cuts (splits bytes)
  where
    read_is : read ≡ take_through 10 bytes
    read_is = subst (λ o. IfSome o (λ xs. read ≡ take_through 10 xs)) left_is reads

    after_is : after ≡ Some (drop_through 10 bytes)
    after_is = subst (λ o. DropsThrough o after 10) left_is drops

    by : (is_whole : Bool) → CutsEnd read is_whole line → Splits bytes → TakesWhole bytes is_whole line after
    by true cut (inl (first, rest, is, one, taken, dropped)) =
        let same : first ≡ line = same_front first line (sym taken ∙ sym read_is ∙ cut) in
        (rest, after_is ∙ ap Some dropped, is ∙ ap (λ l. l ++ 10 ∷ rest) same, subst IsLine same one)
    by true cut (inr (one, taken)) =
        absurd (false≢true (sym one ∙ (ap (list_any (λ byte. byte == 10)) (sym taken ∙ sym read_is ∙ cut) ∙ has_end line [])))
    by false (uncut, same) (inl (first, rest, is, one, taken, dropped)) = absurd (uncut first (read_is ∙ taken))
    by false (uncut, same) (inr (one, taken)) = (one, same ∙ read_is ∙ taken)

-- ---- one line more

one_line : (line rest : List ℕ) → IsLine line → lines_of (line ++ 10 ∷ rest) ≡ line ∷ lines_of rest
one_line [] rest one = refl
one_line (x ∷ line) rest one = first (x == 10) refl (one_line line rest)
  where
    first : (is_end : Bool) → (x == 10) ≡ is_end → (IsLine line → lines_of (line ++ 10 ∷ rest) ≡ line ∷ lines_of rest)
        → lines_of ((x ∷ line) ++ 10 ∷ rest) ≡ (x ∷ line) ∷ lines_of rest
    first true e later = absurd (false≢true (sym one ∙ rw e refl))
    first false e later = rw e (ap (with_first x) (later (rw e at one)))

with_first-append : (x y : ℕ) (ys : List ℕ) (more : List (List ℕ))
    → with_first x (lines_of (y ∷ ys) ++ more) ≡ with_first x (lines_of (y ∷ ys)) ++ more
with_first-append x y ys more = first (y == 10) refl
  where
    some : (lines : List (List ℕ)) → with_first x (with_first y lines ++ more) ≡ with_first x (with_first y lines) ++ more
    some [] = refl
    some (line ∷ lines) = refl

    first : (is_end : Bool) → (y == 10) ≡ is_end
        → with_first x (lines_of (y ∷ ys) ++ more) ≡ with_first x (lines_of (y ∷ ys)) ++ more
    first true e = rw e refl
    first false e = rw e (some (lines_of ys))

behind : (before more : List ℕ) → lines_of (before ++ 10 ∷ more) ≡ lines_of (before ++ 10 ∷ []) ++ lines_of more
behind [] more = refl
behind (x ∷ []) more = first (x == 10) refl
  where
    first : (is_end : Bool) → (x == 10) ≡ is_end
        → lines_of ((x ∷ []) ++ 10 ∷ more) ≡ lines_of ((x ∷ []) ++ 10 ∷ []) ++ lines_of more
    first true e = rw e refl
    first false e = rw e refl
behind (x ∷ y ∷ before) more = first (x == 10) refl (behind (y ∷ before) more)
  where
    first : (is_end : Bool) → (x == 10) ≡ is_end
        → lines_of ((y ∷ before) ++ 10 ∷ more) ≡ lines_of ((y ∷ before) ++ 10 ∷ []) ++ lines_of more
        → lines_of ((x ∷ y ∷ before) ++ 10 ∷ more) ≡ lines_of ((x ∷ y ∷ before) ++ 10 ∷ []) ++ lines_of more
    first true e later = rw e (ap (λ ls. [] ∷ ls) later)
    first false e later = rw e (ap (with_first x) later ∙ with_first-append x y (before ++ 10 ∷ []) (lines_of more))

-- whole lines with one more
pub lines-whole : (passed line : List ℕ) → IsWhole passed → IsLine line → lines_of (passed ++ (line ++ 10 ∷ [])) ≡ lines_of passed ++ line ∷ []
lines-whole passed line (inl none) one =
    ap (λ l. lines_of (l ++ (line ++ 10 ∷ []))) none ∙ one_line line [] one ∙ ap (λ l. lines_of l ++ line ∷ []) (sym none)
lines-whole passed line (inr (before, is)) one =
    ap (λ l. lines_of (l ++ (line ++ 10 ∷ []))) is
    ∙ ap lines_of (append_assoc before (10 ∷ []) (line ++ 10 ∷ []))
    ∙ behind before (line ++ 10 ∷ [])
    ∙ ap (λ ls. lines_of (before ++ 10 ∷ []) ++ ls) (one_line line [] one)
    ∙ ap (λ l. lines_of l ++ line ∷ []) (sym is)

pub whole-more : (passed line : List ℕ) → IsWhole (passed ++ (line ++ 10 ∷ []))
whole-more passed line = inr (passed ++ line, sym (append_assoc passed line (10 ∷ [])))
