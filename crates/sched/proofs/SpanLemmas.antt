-- A span narrowed by one named time after the other.
use Rattle.std.proofs.Common.{◌≡◌, ℕ, zero, suc, ◌+◌, ◌<◌, ◌≤◌, ◌==◌, ◌||◌, ◌++◌, ◌⊎◌, ⊎_elim, ◌-◌, Bool, true, false, List, [], ◌∷◌, Option, Some, None, MatchOption}
use Rattle.std.proofs.Common.{append_assoc, get_or, length, take, refl, sym, ap, ◌∙◌, inl, inr, arith}
use Rattle.std.specs.List.{flat_map}
use Rattle.std.specs.Prelude.{ℤ}
use Rattle.std.proofs.lemmas.Bool.{cases_Bool, cases_eq, cases_lt, or_left, or_right}
use Rattle.std.proofs.lemmas.Bool.Decides.{nat_tests}
use Rattle.std.proofs.lemmas.Grind.{flat_map-append}
use Rattle.std.proofs.lemmas.List.{append-nil, take_more}
use Rattle.std.proofs.lemmas.List.Folds.{list_any-append}
use Rattle.jiff_core.specs.declared.civil.date.Date.{Date}
use Rattle.sched.specs.declared.calendar.Calendar.{Calendar}
use Rattle.sched.specs.declared.exception.Exception.{Exception}
use Rattle.sched.specs.declared.schedule.Schedule.{Schedule}
use Rattle.sched.specs.declared.span.Span.{Span}
use Rattle.sched.specs.declared.time.TheConstants.{HUNDREDTHS_A_DAY}
use Rattle.sched.specs.ByTime.{is_named}
use Rattle.sched.specs.Named.{named_times}
use Rattle.sched.specs.Schedule.{schedule_value}
use Rattle.sched.specs.Spans.{IsSpanAt}
use Rattle.sched.specs.TimesAround.{IsLastTimeBy, IsNamed, IsNextTimeAfter}
use Rattle.sched.proofs.QuietLemmas.{schedule_value-quiet}

steady : (value : ℕ → Option ℤ) (first last : ℕ) → ((c : ℕ) → first < suc c → suc c ≤ last → value (suc c) ≡ value c)
    → (c : ℕ) → first ≤ c → c ≤ last → value c ≡ value first
steady value first last quiet zero from within = let e : zero ≡ first = omega (arith, from) in ap value e
steady value first last quiet (suc c) from within = elim (cases_eq first (suc c)) [
  | inl same ↦ ap value (sym same)
  | inr apart ↦ quiet c (omega (arith, from, apart)) within ∙ steady value first last quiet c (omega (arith, from, apart)) (omega (arith, within))
]

between_others : (c : ℕ) → 0 < c → ((0 == c) || false) ≡ false
between_others c past = grind (arith, nat_tests)

-- the whole day, where midnight alone is named
pub IsSpanAt-none : (day : Date) (time : ℕ) → time ≤ 8_639_999
    → IsSpanAt (0 ∷ []) time (record { day = day; first = 0; last = 8_639_999 })
IsSpanAt-none day time within = record {
  begins = omega arith;
  ends = within;
  first_is_named = refl;
  next_is_named = inr refl;
  none_between = λ c past last. between_others c past;
}

pub one-more : {X : Type 0} (xs : List X) (i : ℕ) (x : X) → i < length xs → x ≡ get_or xs i x → take i xs ++ x ∷ [] ≡ take (i + 1) xs
one-more xs i x within is = ap (λ y. take i xs ++ y ∷ []) is ∙ sym (take_more xs i x within)

pub exceptions-more : (f : Exception → List ℕ) (times : List ℕ) (list : List Exception) (i : ℕ) (x : Exception) → i < length list
    → x ≡ get_or list i x → (times ++ flat_map f (take i list)) ++ f x ≡ times ++ flat_map f (take (i + 1) list)
exceptions-more f times list i x within is =
    append_assoc times (flat_map f (take i list)) (f x)
    ∙ ap (λ l. times ++ (flat_map f (take i list) ++ l)) (sym (append-nil (f x)))
    ∙ ap (λ l. times ++ l) (sym (flat_map-append f (take i list) (x ∷ [])) ∙ ap (flat_map f) (one-more list i x within is))

-- ---- narrowed by the times of a list

neither : (a b : Bool) → a ≡ false → b ≡ false → (a || b) ≡ false
neither true b a_false b_false = a_false
neither false b a_false b_false = b_false

abbrev pub Begins : Option ℕ → ℕ → ℕ → Type 0
Begins named old new = (old ≤ new) × MatchOption named (new ≡ old) (λ t. (t ≤ new) × ((new ≡ old) ⊎ (new ≡ t)))

abbrev pub Ends : Option ℕ → ℕ → ℕ → Type 0
Ends named old new = (new ≤ old) × MatchOption named (new ≡ old) (λ t. (new ≤ t - 1) × ((new ≡ old) ⊎ (new ≡ t - 1)))

module _ (times named : List ℕ) (time : ℕ) (old new : Span) (was : IsSpanAt times time old) where
  -- the first time is named, and not after the time
  first_of : (last : Option ℕ) → IsLastTimeBy named time last → Begins last old.first new.first
      → (new.first ≤ time) × ((is_named times new.first || is_named named new.first) ≡ true)
  first_of None is begins =
      let same = begins.1 in
      let h = was.begins in
      (omega (arith, same, h), or_left _ _ (ap (is_named times) same ∙ was.first_is_named))
  first_of (Some a) is begins = ⊎_elim
      (λ same. let h = was.begins in (omega (arith, same, h), or_left _ _ (ap (is_named times) same ∙ was.first_is_named)))
      (λ here. let h = is.1 in (omega (arith, here, h), or_right _ _ (ap (is_named named) here ∙ is.0))) begins.1.1

  abbrev EndsWell : Type 0
  EndsWell = (time ≤ new.last)
      × (((is_named times (new.last + 1) || is_named named (new.last + 1)) ≡ true) ⊎ (new.last + 1 ≡ HUNDREDTHS_A_DAY))

  last_kept : new.last ≡ old.last → EndsWell
  last_kept same =
      let h = was.ends in (
        omega (arith, same, h),
        ⊎_elim (λ n. inl (or_left _ _ (ap (λ l. is_named times (l + 1)) same ∙ n))) (λ at_end. inr (ap (λ l. l + 1) same ∙ at_end))
            was.next_is_named,
      )

  -- the last time is not before the time, and the next is named, or is that of the next day
  last_of : (next : Option ℕ) → IsNextTimeAfter named time next → Ends next old.last new.last → EndsWell
  last_of None is ends = last_kept ends.1
  last_of (Some b) is ends = ⊎_elim (λ same. last_kept same)
      (λ here.
      let past = is.1 in
      let next : new.last + 1 ≡ b = omega (arith, here, past) in
      (omega (arith, here, past), inl (or_right _ _ (ap (is_named named) next ∙ is.0)))) ends.1.1

  -- no time of the list lies past the first, up to the last
  between : (last next : Option ℕ) → IsLastTimeBy named time last → IsNextTimeAfter named time next → Begins last old.first new.first
      → Ends next old.last new.last → (c : ℕ) → new.first < c → c ≤ new.last → IsNamed named c → ⊥
  between last next by after begins ends c past within is_in = ⊎_elim (later next after ends) (earlier last by begins) (cases_lt time c)
    where
      later : (next : Option ℕ) → IsNextTimeAfter named time next → Ends next old.last new.last → time < c → ⊥
      later None after ends past_time = let h = after c is_in in omega (arith, h, past_time)
      later (Some b) after ends past_time =
          let h = after.2 c is_in past_time in let k = ends.1.0 in let b_past = after.1 in omega (arith, h, k, within, b_past)

      earlier : (last : Option ℕ) → IsLastTimeBy named time last → Begins last old.first new.first → c ≤ time → ⊥
      earlier None by begins up_to = let h = by c is_in in omega (arith, h, up_to)
      earlier (Some a) by begins up_to = let h = by.2 c is_in up_to in let k = begins.1.0 in omega (arith, h, k, past)

  pub IsSpanAt-list : (last next : Option ℕ) → IsLastTimeBy named time last → IsNextTimeAfter named time next
      → Begins last old.first new.first → Ends next old.last new.last → IsSpanAt (times ++ named) time new
  IsSpanAt-list last next by after begins ends =
      let starts = first_of last by begins in
      let stops = last_of next after ends in
      let both : (c : ℕ) → is_named (times ++ named) c ≡ (is_named times c || is_named named c) =
      λ c. list_any-append (λ t. t == c) times named in
      let rises = begins.0 in
      let falls = ends.0 in
      record {
        begins = starts.0;
        ends = stops.0;
        first_is_named = both new.first ∙ starts.1;
        next_is_named = ⊎_elim (λ n. inl (both (new.last + 1) ∙ n)) (λ at_end. inr at_end) stops.1;
        none_between = λ c past within.
            both c
            ∙ neither (is_named times c) (is_named named c) (was.none_between c (omega (arith, rises, past)) (omega (arith, falls, within)))
            (⊎_elim (λ is_in. absurd (between last next by after begins ends c past within is_in)) (λ out. out)
            (cases_Bool (is_named named c)));
      }

-- over the span the value is that at the time
pub value-stands : (schedule : Schedule) (calendars : List Calendar) (day : Date) (time : ℕ) (span : Span)
    → IsSpanAt (named_times schedule calendars day) time span
    → (c : ℕ) → span.first ≤ c → c ≤ span.last → schedule_value schedule calendars day c ≡ schedule_value schedule calendars day time
value-stands schedule calendars day time span spans c from within =
    let value = λ (c : ℕ). schedule_value schedule calendars day c in
    let quiet : (c : ℕ) → span.first < suc c → suc c ≤ span.last → value (suc c) ≡ value c =
    λ c past last. schedule_value-quiet schedule calendars day c (spans.none_between (suc c) past last) in
    steady value span.first span.last quiet c from within ∙ sym (steady value span.first span.last quiet time spans.begins spans.ends)
