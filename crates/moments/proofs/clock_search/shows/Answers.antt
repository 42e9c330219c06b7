use Rattle.std.proofs.Common.{◌≡◌, ◌∙◌, pos, ◌+ℤ◌, ◌*ℤ◌, FitsSigned, w64, to_z, of_z, Some, sym, ap, subst, arith}
use Rattle.std.proofs.lemmas.Bool.{eqb-true, false≢true}
use Rattle.std.proofs.lemmas.Int.{to_z-of_z}
use Rattle.jiff_core.proofs.SignedLemmas.{signed_arith}
use Rattle.std.specs.Cmp.{unsigned_Decides}
use Rattle.jiff_core.specs.Date.{epoch_day}
use Rattle.local_times.specs.LocalTimes.{IsShown, clock_at, local_at}
use Rattle.local_times.specs.declared.local_clock.LocalTime.{LocalTime}
use Rattle.moments.proofs.ShownLemmas.{Shows-local, Shows-of, same_local}
use Rattle.moments.proofs.clock_search.shows.Goals as goal

pub returns-in-Some-clause-shows : goal.returns-in-Some-clause-shows
returns-in-Some-clause-shows c = λ e.
    let fits : FitsSigned w64 c.args.at = c.ranges.at in
    let value = simp to_z-of_z at c.in-Some.ensures.value in
    let shown = simp to_z-of_z at c.in-Some.ensures.shows in
    let shown_fits : FitsSigned w64 c.clock_of.result = omega (arith, signed_arith, c.clock_of.ensures.bound) in
    let local_fits : FitsSigned w64 c.clock_of-clock.result = omega (arith, signed_arith, c.clock_of-clock.ensures.bound) in
    let clocks = simp to_z-of_z at (ap (to_z w64) (eqb-true _ _ e)) in
    let same : c.in-Some.shown ≡ c.args.local.now = same_local c.in-Some.shown c.args.local.now c.clock_of.ensures.within
    c.clock_of-clock.ensures.within (sym c.clock_of.ensures.value ∙ clocks ∙ c.clock_of-clock.ensures.value) in
    Shows-of c.args.zone.now c.args.local.now c.args.at c.clock_of-clock.ensures.within
    (subst (λ (l : LocalTime). local_at c.args.zone.now c.args.at ≡ Some l) same (sym value))
    (subst (λ (l : LocalTime). IsShown (clock_at c.args.zone.now c.args.at) l) same shown)

pub returns-in-Some-clause-hides : goal.returns-in-Some-clause-hides
returns-in-Some-clause-hides c = λ e shows.
    let fits : FitsSigned w64 c.args.at = c.ranges.at in
    let value = simp to_z-of_z at c.in-Some.ensures.value in
    let is = Shows-local c.args.zone.now c.args.local.now c.args.at c.clock_of-clock.ensures.years c.clock_of-clock.ensures.within shows in
    let same : c.in-Some.shown ≡ c.args.local.now = cc in
    let clocks : c.clock_of.result ≡ c.clock_of-clock.result = c.clock_of.ensures.value
    ∙ ap (λ (l : LocalTime). epoch_day l.day *ℤ pos 8_640_000 +ℤ pos l.time) same ∙ sym c.clock_of-clock.ensures.value in
    absurd (false≢true (sym e ∙ (unsigned_Decides _ _).1 (ap (of_z w64) clocks)))

pub returns-in-None-clause-hides : goal.returns-in-None-clause-hides
returns-in-None-clause-hides c = λ e shows.
    let fits : FitsSigned w64 c.args.at = c.ranges.at in
    let value = simp to_z-of_z at c.in-None.ensures.value in
    let is = Shows-local c.args.zone.now c.args.local.now c.args.at c.clock_of-clock.ensures.years c.clock_of-clock.ensures.within shows in
    let bad : ⊥ = cc in
    absurd bad
