-- What `jiff` shows in nanoseconds is the moment moved by the zone's offset.
use Rattle.std.proofs.Common.{FitsSigned, w64, ◌≡◌, false, pos, ◌+ℤ◌, ◌*ℤ◌, ◌≤ℤ◌, ◌<ℤ◌, Result, Ok, Err, Some, sym, subst, ◌∙◌, ap, ap₂, arith}
use Rattle.std.specs.Int.{w128}
use Rattle.std.specs.Option.{is_some}
use Rattle.std.specs.Result.{IfOk, is_ok, result_ok}
use Rattle.std.proofs.lemmas.Bool.{false≢true}
use Rattle.std.proofs.lemmas.Int.{to_z-of_z}
use Rattle.jiff_core.proofs.SignedLemmas.{signed_arith}
use Rattle.jiff_core.specs.DateTime.{civil_nanos}
use Rattle.jiff_core.specs.Timestamp.{nanos_of_seconds}
use Rattle.jiff_tz.specs.Zone.{offset_at}
use Rattle.local_times.proofs.ClockLemmas.{local_before, local_far, local_from, local_of-shown, shown_parts}
use Rattle.local_times.proofs.local_clock.local_time.Goals as goal

-- what holds of an `Ok` holds of its value
ok_value : {A E : Type 0} (P : A → Type 0) (r : Result A E) (x : A) → result_ok r ≡ Some x → IfOk r P → P x
ok_value P (Ok y) x e h = let same : y ≡ x = (cc) in subst P same h
ok_value P (Err y) x e h = absurd (cc e)

pub returns-then-moment-lt0-clause-value : goal.returns-then-moment-lt0-clause-value
returns-then-moment-lt0-clause-value c =
    let fits : FitsSigned w64 c.args.moment = c.ranges.moment in
    let test = simp to_z-of_z at c.if-moment-lt0.true in
    let before : c.args.moment <ℤ pos 0 = omega (arith, signed_arith, test) in
    sym (local_before c.args.zone.now c.args.moment before)

pub returns-in_err-instant-clause-value : goal.returns-in_err-instant-clause-value
returns-in_err-instant-clause-value c =
    let zone = c.args.zone.now in
    let moment = c.args.moment in
    let fits : FitsSigned w64 moment = c.ranges.moment in
    let wide : FitsSigned w128 moment = omega (arith, signed_arith) in
    let product : FitsSigned w128 (moment *ℤ pos 10_000_000) = omega (arith, signed_arith) in
    let test = simp to_z-of_z at c.if-moment-lt0.false in
    let from : pos 0 ≤ℤ moment = omega (arith, signed_arith, test) in
    let failed : is_ok c.from_nanosecond.result ≡ false = sym c.ok.ensures.variant ∙ ap is_some c.in_err-instant.was in
    let succeeds = simp to_z-of_z at c.from_nanosecond.ensures.succeeds in
    c.from_residual.ensures
    ∙ sym (local_from zone moment from ∙ local_far zone moment from (λ h. false≢true (sym failed ∙ succeeds.1 h)))

pub returns-clause-value : goal.returns-clause-value
returns-clause-value c =
    let zone = c.args.zone.now in
    let moment = c.args.moment in
    let fits : FitsSigned w64 moment = c.ranges.moment in
    let wide : FitsSigned w128 moment = omega (arith, signed_arith) in
    let product : FitsSigned w128 (moment *ℤ pos 10_000_000) = omega (arith, signed_arith) in
    let test = simp to_z-of_z at c.if-moment-lt0.false in
    let from : pos 0 ≤ℤ moment = omega (arith, signed_arith, test) in
    let value = simp to_z-of_z at c.from_nanosecond.ensures.value in
    let instant = sym c.ok.ensures.value ∙ c.in_ok-instant.was in
    let nanos = ok_value (λ t. t.nanosecond ≡ moment *ℤ pos 10_000_000) c.from_nanosecond.result c.in_ok-instant.instant instant value in
    let shown = ap civil_nanos c.to_plain-shown.ensures ∙ c.to_datetime.ensures
    ∙ ap₂ (λ z n. n +ℤ nanos_of_seconds (offset_at z n)) c.time_zone.ensures nanos in
    c.shown_at.ensures.value ∙ local_of-shown zone moment c.to_plain-shown.result shown ∙ sym (local_from zone moment from)

pub returns-clause-shows : goal.returns-clause-shows
returns-clause-shows c =
    let zone = c.args.zone.now in
    let moment = c.args.moment in
    let fits : FitsSigned w64 moment = c.ranges.moment in
    let wide : FitsSigned w128 moment = omega (arith, signed_arith) in
    let product : FitsSigned w128 (moment *ℤ pos 10_000_000) = omega (arith, signed_arith) in
    let value = simp to_z-of_z at c.from_nanosecond.ensures.value in
    let instant = sym c.ok.ensures.value ∙ c.in_ok-instant.was in
    let nanos = ok_value (λ t. t.nanosecond ≡ moment *ℤ pos 10_000_000) c.from_nanosecond.result c.in_ok-instant.instant instant value in
    let shown = ap civil_nanos c.to_plain-shown.ensures ∙ c.to_datetime.ensures
    ∙ ap₂ (λ z n. n +ℤ nanos_of_seconds (offset_at z n)) c.time_zone.ensures nanos in
    shown_parts zone moment c.to_plain-shown.result c.shown_at.result shown c.shown_at.ensures.parts
