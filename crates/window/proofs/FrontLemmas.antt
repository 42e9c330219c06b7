-- The front is the least missing number, and it never falls.
use Rattle.std.proofs.Common.{◌≡◌, ◌≢◌, ℕ, suc, zero, ◌+◌, ◌<◌, ◌≤◌, ◌==◌, Bool, true, false, cond, not, ◌&&◌, max, List, [], ◌∷◌, Some, is_some}
use Rattle.std.proofs.Common.{length, refl, sym, subst, arith, inl, inr, ⊎_elim, nat_lt, nat_le}
use Rattle.std.proofs.lemmas.Bool.Decides.{nat_tests}
use Rattle.std.proofs.lemmas.Bool.{both_ways, cases_eq, cases_lt, cases_order, cases_Bool, false≢true}
use Rattle.points.specs.declared.content.Content.{Content}
use Rattle.window.specs.declared.numbered_content.NumberedContent.{NumberedContent}
use Rattle.window.specs.Taken.{Ask, Command, Skip, Taken, taken, take, opening, content_in, content_at, is_key, missing_from, front, accepts}
use Rattle.window.specs.Taken.{accepts_skip, with_command}
use Rattle.window.specs.Laws.{IsFront}
use Rattle.window.specs.Window.{window}

-- how many entries stand at or above n
count_from : List NumberedContent → ℕ → ℕ
count_from [] n = 0
count_from (entry ∷ entries) n = cond (nat_le n entry.number) 1 0 + count_from entries n

eqb_true : (x y : ℕ) → (x == y) ≡ true → x ≡ y
eqb_true x y e = grind (arith, nat_tests)

at_most : (n m : ℕ) → cond (nat_le (n + 1) m) 1 0 ≤ cond (nat_le n m) 1 0
at_most n m = grind (arith, nat_tests)

one_at : (n m : ℕ) → m ≡ n → cond (nat_le (n + 1) m) 1 0 + 1 ≤ cond (nat_le n m) 1 0
one_at n m e = grind (arith, nat_tests)

at_most_one : (b : Bool) → cond b 1 0 ≤ 1
at_most_one true = omega arith
at_most_one false = omega arith

count_from-next : (entries : List NumberedContent) (n : ℕ) → count_from entries (n + 1) ≤ count_from entries n
unfolding count_from
count_from-next [] n = omega arith
count_from-next (entry ∷ entries) n = omega (arith, at_most n entry.number, count_from-next entries n)

key_below : (entry : NumberedContent) (entries : List NumberedContent) (n : ℕ) → entry.number ≢ n
    → is_some (content_in (entry ∷ entries) n) ≡ true → is_some (content_in entries n) ≡ true
key_below entry entries n apart key = elim (cases_Bool (entry.number == n)) [
  | inl same ↦ absurd (apart (eqb_true entry.number n same))
  | inr other ↦ rw other at key
]

count_from-key : (entries : List NumberedContent) (n : ℕ) → is_some (content_in entries n) ≡ true
    → count_from entries (n + 1) + 1 ≤ count_from entries n
unfolding count_from
count_from-key [] n key = absurd (false≢true key)
count_from-key (entry ∷ entries) n key =
    elim (cases_eq entry.number n) [
      | inl same ↦ omega (arith, one_at n entry.number same, count_from-next entries n)
      | inr apart ↦ omega (arith, at_most n entry.number, count_from-key entries n (key_below entry entries n apart key))
    ]

count_from-length : (entries : List NumberedContent) (n : ℕ) → count_from entries n ≤ length entries
unfolding count_from
count_from-length [] n = omega arith
count_from-length (entry ∷ entries) n = omega (arith, at_most_one (nat_le n entry.number), count_from-length entries n)

-- with enough turns, what is found is missing
missing_from-missing : (k : ℕ) (entries : List NumberedContent) (n : ℕ) → count_from entries n ≤ k
    → is_some (content_in entries (missing_from k entries n)) ≡ false
missing_from-missing zero entries n h =
    ⊎_elim (λ key. absurd (omega (arith, count_from-key entries n key))) (λ other. other)
    (cases_Bool (is_some (content_in entries n)))
missing_from-missing (suc k) entries n h =
    elim (cases_Bool (is_some (content_in entries n))) [
      | inl key ↦ rw key (missing_from-missing k entries (n + 1) (omega (arith, count_from-key entries n key)))
      | inr other ↦ rw other other
    ]

missing_from-least : (k : ℕ) (entries : List NumberedContent) (n j : ℕ) → n ≤ j → j < missing_from k entries n
    → is_some (content_in entries j) ≡ true
missing_from-least zero entries n j from below = absurd (omega arith)
missing_from-least (suc k) entries n j from below =
    elim (cases_Bool (is_some (content_in entries n))) [
      | inl key ↦ elim (cases_eq n j) [
        | inl same ↦ subst (λ m. is_some (content_in entries m) ≡ true) same key
        | inr apart ↦ missing_from-least k entries (n + 1) j (omega arith) (rw key at below)
      ]
      | inr other ↦ let past = rw other at below in absurd (omega (arith, past))
    ]

missing_from-from : (k : ℕ) (entries : List NumberedContent) (n : ℕ) → n ≤ missing_from k entries n
missing_from-from zero entries n = omega arith
missing_from-from (suc k) entries n =
    elim (cases_Bool (is_some (content_in entries n))) [
      | inl key ↦ rw key (omega (arith, missing_from-from k entries (n + 1)))
      | inr other ↦ rw other (omega arith)
    ]

pub IsFront-front : (t : Taken) → IsFront t (front t)
unfolding front
IsFront-front t = record {
  given_up = missing_from-from (length t.accepted) t.accepted t.upto;
  missing = missing_from-missing (length t.accepted) t.accepted t.upto (count_from-length t.accepted t.upto);
  least = missing_from-least (length t.accepted) t.accepted t.upto;
}

pub IsFront-unique : (t : Taken) (f g : ℕ) → IsFront t f → IsFront t g → f ≡ g
IsFront-unique t f g at_f at_g =
    elim (cases_order f g) [
      | inl same ↦ same
      | inr apart ↦ elim apart [
        | inl below ↦ absurd (both_ways (is_key t f) at_f.missing (at_g.least f at_f.given_up below))
        | inr above ↦ absurd (both_ways (is_key t g) at_g.missing (at_f.least g at_g.given_up above))
      ]
    ]

pub front-is : (t : Taken) (f : ℕ) → IsFront t f → front t ≡ f
front-is t f h = IsFront-unique t (front t) f (IsFront-front t) h

-- a key stays when another stands before it
pub key_stays : (t : Taken) (m n : ℕ) (content : Content) → is_key t n ≡ true → is_key (with_command t m content) n ≡ true
key_stays t m n content key = elim (m == n) as (λ b. is_some (cond b (Some content) (content_at t n)) ≡ true) [ true ↦ refl | false ↦ key ]

pub key_new : (t : Taken) (n : ℕ) (content : Content) → is_key (with_command t n content) n ≡ true
key_new t n content = let same : (n == n) ≡ true = grind (arith, nat_tests) in rw same refl

pub key_other : (t : Taken) (m n : ℕ) (content : Content) → m ≢ n → is_key t n ≡ false → is_key (with_command t m content) n ≡ false
key_other t m n content apart none = let other : (m == n) ≡ false = grind (arith, nat_tests) in rw other none

-- the keys and what was given up grow
record Grows (old new : Taken) : Type 0 where
  upto : old.upto ≤ new.upto
  keys : (n : ℕ) → is_key old n ≡ true → is_key new n ≡ true

Grows-take : (t : Taken) (ask : Ask) → Grows t (take t ask)
unfolding take
Grows-take t (Command m content) =
    elim (accepts t m) as (λ b. Grows t (cond b (with_command t m content) t)) [
      | true ↦ record { upto = omega arith; keys = λ n key. key_stays t m n content key }
      | false ↦ record { upto = omega arith; keys = λ n key. key }
    ]
Grows-take t (Skip u) =
    elim (accepts_skip t u) as (λ b. Grows t (cond b (record { accepted = t.accepted; upto = max t.upto u }) t)) [
      | true ↦ record { upto = omega arith; keys = λ n key. key }
      | false ↦ record { upto = omega arith; keys = λ n key. key }
    ]

front-grows : (old new : Taken) → Grows old new → front old ≤ front new
front-grows old new grows =
    elim (cases_lt (front new) (front old)) [
      | inl below ↦
          let at_new = IsFront-front new in
          let from : old.upto ≤ front new = omega (arith, grows.upto, at_new.given_up) in
          absurd (both_ways (is_key new (front new)) at_new.missing
          (grows.keys (front new) ((IsFront-front old).least (front new) from below)))
      | inr h ↦ h
    ]

pub front-take : (t : Taken) (ask : Ask) → front t ≤ front (take t ask)
front-take t ask = front-grows t (take t ask) (Grows-take t ask)

pub take-refused : (t : Taken) (n : ℕ) (content : Content) → accepts t n ≡ false → take t (Command n content) ≡ t
unfolding take
take-refused t n content refused = rw refused refl

pub take-accepted : (t : Taken) (n : ℕ) (content : Content) → accepts t n ≡ true → take t (Command n content) ≡ with_command t n content
unfolding take
take-accepted t n content accepted = rw accepted refl

-- what is accepted lies within the window
pub record IsWithin (t : Taken) (n : ℕ) : Type 0 where
  pub free : is_key t n ≡ false
  pub from : front t ≤ n
  pub below : n < front t + window

accepted_parts : (key : Bool) (f n w : ℕ) → (not key && (nat_le f n && nat_lt n (f + w))) ≡ true → (key ≡ false) × (f ≤ n) × (n < f + w)
accepted_parts true f n w e = absurd (false≢true e)
accepted_parts false f n w e = (refl, grind (arith, nat_tests), grind (arith, nat_tests))

pub IsWithin-accepted : (t : Taken) (n : ℕ) → accepts t n ≡ true → IsWithin t n
IsWithin-accepted t n e = let parts = accepted_parts (is_key t n) (front t) n window e in
    record { free = parts.0; from = parts.1; below = parts.2 }

-- no key lies at or past the front plus the window
pub record EndsInWindow (t : Taken) : Type 0 where
  pub none : (n : ℕ) → front t + window ≤ n → is_key t n ≡ false

key_kept : (t : Taken) (u n : ℕ) → is_key t n ≡ false → is_key (take t (Skip u)) n ≡ false
unfolding take
key_kept t u n none =
    elim (accepts_skip t u) as (λ b. is_key (cond b (record { accepted = t.accepted; upto = max t.upto u }) t) n ≡ false) [
      | true ↦ none
      | false ↦ none
    ]

EndsInWindow-opening : EndsInWindow opening
EndsInWindow-opening = record { none = λ n h. refl }

EndsInWindow-take : (t : Taken) (ask : Ask) → EndsInWindow t → EndsInWindow (take t ask)
EndsInWindow-take t (Command m content) ends =
    elim (cases_Bool (accepts t m)) [
      | inl accepted ↦ record {
        none = λ n h. rw (take-accepted t m content accepted) (
            let within = IsWithin-accepted t m accepted in
            let moved = front-take t (Command m content) in
            key_other t m n content (omega (arith, within.below, moved, h)) (ends.none n (omega (arith, moved, h))));
      }
      | inr refused ↦ subst EndsInWindow (sym (take-refused t m content refused)) ends
    ]
EndsInWindow-take t (Skip u) ends = record {
  none = λ n h.
      key_kept t u n (ends.none n (omega (arith, front-take t (Skip u), h)));
}

EndsInWindow-taken : (t : Taken) (asks : List Ask) → EndsInWindow t → EndsInWindow (taken t asks)
EndsInWindow-taken t [] ends = ends
EndsInWindow-taken t (ask ∷ asks) ends = EndsInWindow-taken (take t ask) asks (EndsInWindow-take t ask ends)

-- and so it is after any asks
pub ends_in_window : (asks : List Ask) → EndsInWindow (taken opening asks)
ends_in_window asks = EndsInWindow-taken opening asks EndsInWindow-opening
