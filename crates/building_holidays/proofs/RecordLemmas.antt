-- Records that were read in turn to the end of a text are its records: each takes at least one byte.
use Rattle.std.proofs.Common.{◌≡◌, ◌==◌, ℕ, zero, suc, ◌+◌, ◌≤◌, ◌<◌, Bool, true, false, if◌then◌else◌, refl, sym, ap, arith}
use Rattle.std.proofs.Common.{List, [], ◌∷◌, ◌++◌, length, Option, Some, None}
use Rattle.csv.specs.Machine.{Read, after_end, ends_at_end, ends_with, field_after, fields_after}
use Rattle.csv.specs.Machine.{in_field, is_byte, is_end, next_record, start_field, start_record, step}
use Rattle.csv.specs.Reading.{AreRecords, Reached, default_config, records, records_from}
use Rattle.csv.specs.declared.parser.Action.{Action}
use Rattle.csv.specs.declared.parser.Action.TheVariants as act
use Rattle.csv.specs.declared.parser.Config.{Config}
use Rattle.csv.specs.declared.parser.State.{State}
use Rattle.csv.specs.declared.parser.State.TheVariants as st
use Rattle.csv.specs.declared.parser.Terminator.{Terminator}
use Rattle.csv.specs.declared.parser.Terminator.TheVariants as term

-- ---- after a record the machine stands at the start of one

-- where it ends a record, the end of the text ends no further one
Rests : State × Action → Type 0
Rests next = is_end next.1 ≡ true → ends_at_end next.0 ≡ false

rests_if : (b : Bool) (x y : State × Action) → Rests x → Rests y → Rests (if b then x else y)
unfolding Rests
rests_if true x y h k = h
rests_if false x y h k = k

rests_on : (s : State) (a : Action) → is_end a ≡ false → Rests (s, a)
unfolding Rests
rests_on s a e = λ t. cc (e, t)

rests_at : (s : State) (a : Action) → ends_at_end s ≡ false → Rests (s, a)
unfolding Rests
rests_at s a e = λ t. e

end_rests : (t : Terminator) (c : ℕ) → ends_at_end (after_end t c) ≡ false
end_rests term.CRLF c = by (c == 13)
  where
    by : (b : Bool) → ends_at_end (if b then st.AfterCr else st.StartRecord) ≡ false
    by true = refl
    by false = refl
end_rests (term.Any t) c = refl

in_field_rests : (cfg : Config) (c : ℕ) → Rests (in_field cfg c)
in_field_rests cfg c = rests_if (c == cfg.delimiter) _ _ (rests_on st.StartField act.EndField refl)
    (rests_if (ends_with cfg.terminator c) _ _ (rests_at _ act.EndRecord (end_rests cfg.terminator c)) (rests_on st.InField act.Copy refl))

start_field_rests : (cfg : Config) (c : ℕ) → Rests (start_field cfg c)
start_field_rests cfg c = rests_if _ _ _ (rests_on st.InQuoted act.Skip refl) (in_field_rests cfg c)

start_record_rests : (cfg : Config) (c : ℕ) → Rests (start_record cfg c)
start_record_rests cfg c = rests_if (ends_with cfg.terminator c) _ _ (rests_on st.StartRecord act.Skip refl)
    (rests_if (is_byte cfg.comment c) _ _ (rests_on st.InComment act.Skip refl) (start_field_rests cfg c))

step_rests : (cfg : Config) (s : State) (c : ℕ) → Rests (step cfg s c)
step_rests cfg st.StartRecord c = start_record_rests cfg c
step_rests cfg st.StartField c = start_field_rests cfg c
step_rests cfg st.InField c = in_field_rests cfg c
step_rests cfg st.InQuoted c = rests_if _ _ _ (rests_on st.AfterQuote act.Skip refl)
    (rests_if _ _ _ (rests_on st.InEscape act.Skip refl) (rests_on st.InQuoted act.Copy refl))
step_rests cfg st.InEscape c = rests_on st.InQuoted act.Copy refl
step_rests cfg st.AfterQuote c = rests_if _ _ _ (rests_on st.InQuoted act.Copy refl) (in_field_rests cfg c)
step_rests cfg st.InComment c = rests_if (c == 10) _ _ (rests_on st.StartRecord act.Skip refl) (rests_on st.InComment act.Skip refl)
step_rests cfg st.AfterCr c = rests_if (c == 10) _ _ (rests_on st.StartRecord act.Skip refl) (start_record_rests cfg c)

-- ---- a record takes at least one byte

record_rests : (cfg : Config) (s : State) (fields : List (List ℕ)) (field xs : List ℕ) (p : Read)
    → next_record cfg s fields field xs ≡ Some p → (ends_at_end p.1 ≡ false) × (length p.2 ≤ length xs)
unfolding next_record Rests
record_rests cfg s fields field [] p e = by (ends_at_end s) e
  where
    by : (b : Bool) → (if b then Some (fields ++ field ∷ [], st.StartRecord, []) else None) ≡ Some p
        → (ends_at_end p.1 ≡ false) × (length p.2 ≤ 0)
    by true t = let same : (fields ++ field ∷ [], st.StartRecord, []) ≡ p = (cc) in rw (← same) (refl, omega arith)
    by false t = absurd (cc t)
record_rests cfg s fields field (c ∷ rest) p e =
    let next = step cfg s c in
    by (is_end next.1) refl e (record_rests cfg next.0 (fields_after next.1 fields field) (field_after next.1 c field) rest p)
  where
    later : Option Read
    later = next_record cfg (step cfg s c).0 (fields_after (step cfg s c).1 fields field) (field_after (step cfg s c).1 c field) rest

    by : (b : Bool) → is_end (step cfg s c).1 ≡ b
        → (if b then Some (fields_after (step cfg s c).1 fields field, (step cfg s c).0, rest) else later) ≡ Some p
        → (later ≡ Some p → (ends_at_end p.1 ≡ false) × (length p.2 ≤ length rest))
        → (ends_at_end p.1 ≡ false) × (length p.2 ≤ length (c ∷ rest))
    by true at t more =
        let same : (fields_after (step cfg s c).1 fields field, (step cfg s c).0, rest) ≡ p = (cc) in
        rw (← same) (step_rests cfg s c at, omega arith)
    by false at t more = ((more t).0, omega (arith, (more t).1))

record_takes : (cfg : Config) (s : State) (xs : List ℕ) (p : Read)
    → ends_at_end s ≡ false → next_record cfg s [] [] xs ≡ Some p → length p.2 < length xs
unfolding next_record
record_takes cfg s [] p rests e = absurd (cc (rw rests at e))
record_takes cfg s (c ∷ rest) p rests e =
    by (is_end (step cfg s c).1) e (record_rests cfg (step cfg s c).0 (fields_after (step cfg s c).1 [] [])
    (field_after (step cfg s c).1 c []) rest p)
  where
    later : Option Read
    later = next_record cfg (step cfg s c).0 (fields_after (step cfg s c).1 [] []) (field_after (step cfg s c).1 c []) rest

    by : (b : Bool)
        → (if b then Some (fields_after (step cfg s c).1 [] [], (step cfg s c).0, rest) else later) ≡ Some p
        → (later ≡ Some p → (ends_at_end p.1 ≡ false) × (length p.2 ≤ length rest))
        → length p.2 < length (c ∷ rest)
    by true t more =
        let same : (fields_after (step cfg s c).1 [] [], (step cfg s c).0, rest) ≡ p = (cc) in
        rw (← same) (omega arith)
    by false t more = omega (arith, (more t).1)

few_records : (cfg : Config) (s : State) (xs : List ℕ) (rs : List (List (List ℕ))) (s2 : State) (ys : List ℕ)
    → ends_at_end s ≡ false → Reached cfg s xs rs s2 ys → length rs ≤ length xs
unfolding Reached
few_records cfg s xs [] s2 ys rests h = omega arith
few_records cfg s xs (r ∷ rs) s2 ys rests (p, next, is, more) =
    let fewer = record_takes cfg s xs p rests next in
    let after = record_rests cfg s [] [] xs p next in
    omega (arith, few_records cfg p.1 p.2 rs s2 ys after.0 more)

-- ---- the records of a text

reached_all : (cfg : Config) (n : ℕ) (s : State) (xs : List ℕ) (rs : List (List (List ℕ))) (s2 : State) (ys : List ℕ)
    → Reached cfg s xs rs s2 ys → next_record cfg s2 [] [] ys ≡ None → length rs < n → records_from cfg n s xs ≡ rs
unfolding records_from Reached
reached_all cfg zero s xs rs s2 ys h end few = absurd (omega arith)
reached_all cfg (suc n) s xs [] s2 ys h end few = rw (h.0, h.1, end) refl
reached_all cfg (suc n) s xs (r ∷ rs) s2 ys (p, next, is, more) end few =
    rw (next, is) (ap (λ rest. p.0 ∷ rest) (reached_all cfg n p.1 p.2 rs s2 ys more end (omega arith)))

pub are_records : (xs : List ℕ) (rs : List (List (List ℕ))) → AreRecords default_config st.StartRecord xs rs
    → rs ≡ records default_config xs
are_records xs rs (s2, ys, reached, end) =
    let few = few_records default_config st.StartRecord xs rs s2 ys refl reached in
    sym (reached_all default_config (length xs + 1) st.StartRecord xs rs s2 ys reached end (omega arith))
