-- A line up to its LF, of bytes of which a beginning is at hand.
use Rattle.std.proofs.Common.{◌≡◌, ℕ, zero, suc, ◌+◌, ◌<◌, ◌≤◌, ◌==◌, Bool, true, false, cond, List, [], ◌∷◌, ◌++◌}
use Rattle.std.proofs.Common.{length, take, drop, get_or, Option, Some, None, refl, ap, subst, arith, add-one}
use Rattle.std.proofs.lemmas.Option.{same_Some}
use Rattle.std.specs.Io.BufRead.{DropsConsumable}
use Rattle.std.specs.Io.KnownBytes.{prepend_known}
use Rattle.memchr.specs.Find.{IsFirstByte, is_byte}
use Rattle.desk_cli.specs.Replay.{lines_of, with_first}

is_other : (b : Bool) → ¬ (b ≡ true) → b ≡ false
is_other true apart = absurd (apart refl)
is_other false apart = refl

line_cut : (k : ℕ) (front rest : List ℕ) → k < length front → (get_or front k 0 == 10) ≡ true
    → ((i : ℕ) → i < k → (get_or front i 0 == 10) ≡ false)
    → lines_of (front ++ rest) ≡ take k front ∷ lines_of (drop (suc k) (front ++ rest))
line_cut k [] rest below is before = absurd (omega (arith, below))
line_cut zero (x ∷ xs) rest below is before = rw is refl
line_cut (suc k) (x ∷ xs) rest below is before =
    rw (before 0 (omega arith)) (ap (with_first x)
    (line_cut k xs rest (omega (arith, below)) is (λ i lower. before (suc i) (omega (arith, lower)))))

-- the bytes at hand up to the first LF are the next line
pub takes_whole : (front : List ℕ) (left : Option (List ℕ)) (bytes : List ℕ) (end : ℕ) (found : Option ℕ)
    → prepend_known front left ≡ Some bytes → IsFirstByte (is_byte 10) front found → found ≡ Some end
    → lines_of bytes ≡ take end front ∷ lines_of (drop (end + 1) bytes)
takes_whole front None bytes end found known first is = cc
takes_whole front (Some rest) bytes end found known first is =
    let at_end = subst (IsFirstByte (is_byte 10) front) is first in
    let whole : front ++ rest ≡ bytes = same_Some _ _ known in
    subst (λ (all : List ℕ). lines_of all ≡ take end front ∷ lines_of (drop (end + 1) all)) whole
    (rw add-one (line_cut end front rest at_end.0.high at_end.1
    (λ i lower. is_other (get_or front i 0 == 10) (at_end.0.before i (omega arith) lower))))

-- what is known of a buffer and what it has not read, of which one without room knows nothing
pub known_front : (no_room : Bool) (front : List ℕ) (left : Option (List ℕ)) (bytes : List ℕ)
    → cond no_room None (prepend_known front left) ≡ Some bytes → prepend_known front left ≡ Some bytes
known_front true front left bytes known = cc
known_front false front left bytes known = known

-- what is left behind that line
pub left_behind : (old new : Option (List ℕ)) (front bytes : List ℕ) (amount : ℕ) → old ≡ Some bytes
    → DropsConsumable old new (Some (length front)) amount → amount ≤ length front → new ≡ Some (drop amount bytes)
left_behind old new front bytes amount known drops within =
    subst (λ o. DropsConsumable o new (Some (length front)) amount) known drops within

-- the LF lies within what is at hand
pub within_front : (front : List ℕ) (end : ℕ) (found : Option ℕ) → IsFirstByte (is_byte 10) front found → found ≡ Some end
    → end + 1 ≤ length front
within_front front end found first is =
    let at_end = subst (IsFirstByte (is_byte 10) front) is first in
    omega (arith, at_end.0.high)
