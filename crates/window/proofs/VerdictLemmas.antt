-- What a verdict on a command tells of its number, and a view of the run that it needs.
use Rattle.std.proofs.Common.{◌≡◌, ℕ, ◌+◌, ◌-◌, ◌<◌, ◌==◌, Bool, true, false, cond, List, Option, Some, None, is_some, refl, sym, ap, ◌∙◌, subst}
use Rattle.std.proofs.Common.{arith, inl, inr, nat_lt}
use Rattle.std.proofs.lemmas.Bool.Decides.{nat_tests}
use Rattle.std.proofs.lemmas.Bool.{cases_lt, cases_order, cases_Bool}
use Rattle.points.specs.declared.content.Content.{Content}
use Rattle.points.specs.declared.command_row.CommandRow.{CommandRow}
use Rattle.points.specs.declared.numbered_row.NumberedRow.{NumberedRow}
use Rattle.points.specs.ContentEq.{content_eq}
use Rattle.points.specs.Run.{Rows, IsRun}
use Rattle.window.specs.declared.verdict.Verdict.{Verdict}
use Rattle.window.specs.declared.verdict.Verdict.TheVariants.{Applies, Parked, Repeat, Skipped, Differs, TooFar, Forgotten}
use Rattle.window.specs.Taken.{Command, Skip, Taken, is_key, front, accepts, accepts_skip}
use Rattle.window.specs.Verdict.{verdict_of, verdict_by}
use Rattle.window.specs.View.{Keeps, IsRunNeeded, run_needed}
use Rattle.window.specs.Window.{window, remembered}
use Rattle.window.proofs.PlanLemmas.{accepts-missing, accepts-key, accepts-below, accepts-past}
use Rattle.window.proofs.RunLemmas.{Keeps-remembered, is_some-rows}

-- the run behind a command at the front, and over the numbers of a skip

pub IsRun-command : (t : Taken) (n : ℕ) (content : Content) (rows : Rows) (run : List NumberedRow) → n ≡ front t
    → IsRunNeeded rows (run_needed t (Command n content)) run → IsRun rows (front t + 1) (front t + 1) run
IsRun-command t n content rows run same needed =
    let at : (n == front t) ≡ true = grind (arith, nat_tests) in
    subst (λ (b : Bool). IsRunNeeded rows (cond b (Some (record { from = front t + 1; upto = front t + 1 })) None) run) at needed

pub IsRun-skip : (t : Taken) (u : ℕ) (rows : Rows) (run : List NumberedRow) → accepts_skip t u ≡ true
    → IsRunNeeded rows (run_needed t (Skip u)) run → IsRun rows (front t) u run
IsRun-skip t u rows run accepted needed =
    subst (λ (b : Bool). IsRunNeeded rows (cond b (Some (record { from = front t; upto = u })) None) run) accepted needed

-- a verdict but `Forgotten` is on a number that is remembered
pub record IsRemembered (t : Taken) (n : ℕ) (content : Content) (asked : Option CommandRow) (verdict : Verdict) : Type 0 where
  pub known : nat_lt n (front t - remembered) ≡ false
  pub by_row : verdict_by asked t n content ≡ verdict

remembered_by : (forgotten : Bool) (by_row verdict : Verdict) → (Forgotten ≡ verdict → ⊥) → cond forgotten Forgotten by_row ≡ verdict
    → (forgotten ≡ false) × (by_row ≡ verdict)
remembered_by true by_row verdict apart is = absurd (apart is)
remembered_by false by_row verdict apart is = (refl, is)

IsRemembered-verdict : (t : Taken) (n : ℕ) (content : Content) (asked : Option CommandRow) (verdict : Verdict) → (Forgotten ≡ verdict → ⊥)
    → verdict_of t (Command n content) asked ≡ verdict → IsRemembered t n content asked verdict
IsRemembered-verdict t n content asked verdict apart is =
    let parts = remembered_by (nat_lt n (front t - remembered)) (verdict_by asked t n content) verdict apart is in
    record { known = parts.0; by_row = parts.1 }

-- `Applies` is the verdict on the number of the front

applies_at : (below at near : Bool) → cond below Skipped (cond at Applies (cond near Parked TooFar)) ≡ Applies → at ≡ true
applies_at true at near is = absurd cc
applies_at false true near is = refl
applies_at false false true is = absurd cc
applies_at false false false is = absurd cc

no_applies : (same : Bool) (row : CommandRow) → cond same (Repeat row.state) Differs ≡ Applies → ⊥
no_applies true row is = cc
no_applies false row is = cc

eqb_true : (x y : ℕ) → (x == y) ≡ true → x ≡ y
eqb_true x y is = grind (arith, nat_tests)

applies_by : (t : Taken) (n : ℕ) (content : Content) (asked : Option CommandRow) → verdict_by asked t n content ≡ Applies → n ≡ front t
applies_by t n content None is = eqb_true n (front t) (applies_at _ _ _ is)
applies_by t n content (Some row) is = absurd (no_applies (content_eq row.content content) row is)

pub at_front-applies : (t : Taken) (n : ℕ) (content : Content) (asked : Option CommandRow)
    → verdict_of t (Command n content) asked ≡ Applies → n ≡ front t
at_front-applies t n content asked is =
    let forgets : Forgotten ≡ Applies → ⊥ = λ e. cc in
    applies_by t n content asked (IsRemembered-verdict t n content asked Applies forgets is).by_row

-- `Parked` is the verdict on a number past the front and within the window under which nothing stands
pub record Waits (t : Taken) (n : ℕ) : Type 0 where
  pub accepted : accepts t n ≡ true
  pub past : front t < n

parked_test : (below at near : Bool) → cond below Skipped (cond at Applies (cond near Parked TooFar)) ≡ Parked
    → (below ≡ false) × (at ≡ false) × (near ≡ true)
parked_test true at near is = absurd cc
parked_test false true near is = absurd cc
parked_test false false true is = (refl, refl, refl)
parked_test false false false is = absurd cc

parked_at : (f n w : ℕ) → (nat_lt n f ≡ false) × ((n == f) ≡ false) × (nat_lt n (f + w) ≡ true) → (f < n) × (n < f + w)
parked_at f n w tests =
    let not_below = tests.0 in
    let apart = tests.1 in
    let near = tests.2 in
    (grind (arith, nat_tests), grind (arith, nat_tests))

no_parked : (same : Bool) (row : CommandRow) → cond same (Repeat row.state) Differs ≡ Parked → ⊥
no_parked true row is = cc
no_parked false row is = cc

waits_by : (t : Taken) (n : ℕ) (content : Content) (asked : Option CommandRow) → is_some asked ≡ is_key t n
    → verdict_by asked t n content ≡ Parked → Waits t n
waits_by t n content None shown is =
    let parts = parked_at (front t) n window (parked_test _ _ _ is) in
    record { accepted = accepts-missing t n (sym shown) (let past = parts.0 in omega arith) parts.1; past = parts.0 }
waits_by t n content (Some row) shown is = absurd (no_parked (content_eq row.content content) row is)

shown_key : (t : Taken) (n : ℕ) (rows : Rows) (asked : Option CommandRow) → Keeps rows t → asked ≡ rows n
    → nat_lt n (front t - remembered) ≡ false → is_some asked ≡ is_key t n
shown_key t n rows asked keeps same known = ap is_some same ∙ is_some-rows rows t n (Keeps-remembered rows t n keeps known)

pub waits-parked : (t : Taken) (n : ℕ) (content : Content) (rows : Rows) (asked : Option CommandRow) → Keeps rows t → asked ≡ rows n
    → verdict_of t (Command n content) asked ≡ Parked → Waits t n
waits-parked t n content rows asked keeps same is =
    let forgets : Forgotten ≡ Parked → ⊥ = λ e. cc in
    let found = IsRemembered-verdict t n content asked Parked forgets is in
    waits_by t n content asked (shown_key t n rows asked keeps same found.known) found.by_row

-- another verdict is on a number that is not accepted

applies_there : (t : Taken) (n : ℕ) (content : Content) → n ≡ front t → verdict_by None t n content ≡ Applies
applies_there t n content same =
    let low : nat_lt n (front t) ≡ false = grind (arith, nat_tests) in
    let at : (n == front t) ≡ true = grind (arith, nat_tests) in
    rw (low, at) refl

parked_there : (t : Taken) (n : ℕ) (content : Content) → front t < n → n < front t + window → verdict_by None t n content ≡ Parked
parked_there t n content past near =
    let low : nat_lt n (front t) ≡ false = grind (arith, nat_tests) in
    let at : (n == front t) ≡ false = grind (arith, nat_tests) in
    let within : nat_lt n (front t + window) ≡ true = grind (arith, nat_tests) in
    rw (low, at, within) refl

refused_by : (t : Taken) (n : ℕ) (content : Content) (asked : Option CommandRow) → is_some asked ≡ is_key t n
    → (verdict_by asked t n content ≡ Applies → ⊥) → (verdict_by asked t n content ≡ Parked → ⊥) → accepts t n ≡ false
refused_by t n content None shown not_applies not_parked =
    elim (cases_order n (front t)) [
      | inl same ↦ absurd (not_applies (applies_there t n content same))
      | inr apart ↦ elim apart [
        | inl below ↦ accepts-below t n below
        | inr above ↦ elim (cases_lt n (front t + window)) [
          | inl near ↦ absurd (not_parked (parked_there t n content above near))
          | inr far ↦ accepts-past t n far
        ]
      ]
    ]
refused_by t n content (Some row) shown not_applies not_parked = accepts-key t n (sym shown)

pub refused-otherwise : (t : Taken) (n : ℕ) (content : Content) (rows : Rows) (asked : Option CommandRow) → Keeps rows t → asked ≡ rows n
    → (verdict_of t (Command n content) asked ≡ Applies → ⊥) → (verdict_of t (Command n content) asked ≡ Parked → ⊥) → accepts t n ≡ false
refused-otherwise t n content rows asked keeps same not_applies not_parked =
    elim (cases_Bool (nat_lt n (front t - remembered))) [
      | inl forgotten ↦ accepts-below t n (grind (arith, nat_tests))
      | inr known ↦
          let by_row : verdict_of t (Command n content) asked ≡ verdict_by asked t n content = rw known refl in
          refused_by t n content asked (shown_key t n rows asked keeps same known)
          (λ is. not_applies (by_row ∙ is)) (λ is. not_parked (by_row ∙ is))
    ]
