use Rattle.std.proofs.Common.{◌∙◌, ℤ, pos, ◌+ℤ◌, ◌-ℤ◌, ◌*ℤ◌, ◌≤ℤ◌, ◌<ℤ◌, FitsSigned, w64, to_z, refl, sym, arith, subst}
use Rattle.std.proofs.lemmas.Int.{to_z-of_z}
use Rattle.jiff_core.proofs.SignedLemmas.{signed_arith}
use Rattle.moments.specs.Meaning.{Shows}
use Rattle.moments.proofs.ShownLemmas.{ahead_of, next_after}
use Rattle.moments.proofs.clock_search.first_moment.Goals as goal

pub loop-step-init : goal.loop-step-init
loop-step-init c =
    let clock : FitsSigned w64 c.clock_of-clock.result = omega (arith, signed_arith, c.clock_of-clock.ensures.bound) in
    simp to_z-of_z record {
      zone = refl;
      local = refl;
      clock = refl;
      from = omega (arith, signed_arith);
      later = λ at shows.
          let ahead = ahead_of c.args.zone.now c.args.local.now at shows in
          let most = ahead.1 in
          let is = c.clock_of-clock.ensures.value ∙ sym ahead.2 in
          omega (arith, signed_arith);
    }

pub returns-then-shows-clause-found : goal.returns-then-shows-clause-found
returns-then-shows-clause-found c =
    let clock : FitsSigned w64 c.clock_of-clock.result = omega (arith, signed_arith, c.clock_of-clock.ensures.bound) in
    let step : ℤ = to_z w64 c.loop-step.step-bits in
    let from : pos 0 ≤ℤ step = c.loop-step.invariant.from in
    let below : step <ℤ pos 187_199 = omega (arith, signed_arith, c.loop-step-test.true) in
    let left : FitsSigned w64 (pos 93_599 -ℤ step) = omega (arith, signed_arith) in
    let hundredths : FitsSigned w64 ((pos 93_599 -ℤ step) *ℤ pos 100) = omega (arith, signed_arith) in
    let here : FitsSigned w64 (c.clock_of-clock.result -ℤ (pos 93_599 -ℤ step) *ℤ pos 100) = omega (arith, signed_arith) in
    let later = simp to_z-of_z at c.loop-step.invariant.later in
    let shows = simp to_z-of_z at (c.if-shows.ensures.shows refl) in
    simp to_z-of_z (shows, later)

pub loop-step-preserved : goal.loop-step-preserved
loop-step-preserved c =
    let clock : FitsSigned w64 c.clock_of-clock.result = omega (arith, signed_arith, c.clock_of-clock.ensures.bound) in
    let step : ℤ = to_z w64 c.loop-step.step-bits in
    let from : pos 0 ≤ℤ step = c.loop-step.invariant.from in
    let below : step <ℤ pos 187_199 = omega (arith, signed_arith, c.loop-step-test.true) in
    let left : FitsSigned w64 (pos 93_599 -ℤ step) = omega (arith, signed_arith) in
    let hundredths : FitsSigned w64 ((pos 93_599 -ℤ step) *ℤ pos 100) = omega (arith, signed_arith) in
    let here : FitsSigned w64 (c.clock_of-clock.result -ℤ (pos 93_599 -ℤ step) *ℤ pos 100) = omega (arith, signed_arith) in
    let next : FitsSigned w64 (step +ℤ pos 1) = omega (arith, signed_arith) in
    let later = simp to_z-of_z at c.loop-step.invariant.later in
    let hides = simp to_z-of_z at (c.if-shows.ensures.hides refl) in
    simp to_z-of_z record {
      zone = refl;
      local = refl;
      clock = refl;
      from = omega (arith, signed_arith);
      later = λ at shows.
          let ahead = ahead_of c.args.zone.now c.args.local.now at shows in
          let after = next_after at (c.clock_of-clock.result -ℤ (pos 93_599 -ℤ step) *ℤ pos 100) ahead.0 c.clock_of-clock.result (pos 93_599 -ℤ step)
          (ahead.2 ∙ sym c.clock_of-clock.ensures.value) refl (later at shows)
          (λ same. hides (subst (λ moment. Shows c.args.zone.now c.args.local.now moment) same shows)) in
          omega (arith, signed_arith);
    }

pub returns-clause-none : goal.returns-clause-none
returns-clause-none c = λ none at shows.
    let clock : FitsSigned w64 c.clock_of-clock.result = omega (arith, signed_arith, c.clock_of-clock.ensures.bound) in
    let step : ℤ = to_z w64 c.loop-step.step-bits in
    let above : pos 187_199 ≤ℤ step = omega (arith, signed_arith, c.loop-step-test.false) in
    let later = simp to_z-of_z at (c.loop-step.invariant.later at shows) in
    let ahead = ahead_of c.args.zone.now c.args.local.now at shows in
    let least = ahead.1 in
    let is = c.clock_of-clock.ensures.value ∙ sym ahead.2 in
    let bad : ⊥ = omega (arith, signed_arith) in
    bad
