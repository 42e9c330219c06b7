-- `Day::new` makes the day of a date.
use Rattle.std.proofs.Common.{ℕ, FitsSigned, w16, w32, ◌<ℤ◌, ◌≤ℤ◌, ◌/◌, pos, Some, sym, ◌∙◌, ap, arith}
use Rattle.std.specs.Option.{option_map}
use Rattle.std.proofs.lemmas.Int.{to_z-of_z}
use Rattle.jiff_core.specs.Time.{time_nanos}
use Rattle.jiff_core.specs.declared.civil.date.Date.{Date}
use Rattle.jiff_core.proofs.DateLemmas.{epoch_day_same}
use Rattle.jiff_core.proofs.SignedLemmas.{signed_arith}
use Rattle.local_times.specs.declared.local_clock.LocalTime.{LocalTime}
use Rattle.local_times.proofs.DateLemmas.{local_below, local_on-new}
use Rattle.local_times.proofs.local_clock.shown_at.Goals as goal

pub returns-then-date-lt-FIRST_YEAR-clause-value : goal.returns-then-date-lt-FIRST_YEAR-clause-value
returns-then-date-lt-FIRST_YEAR-clause-value c =
    let fits : FitsSigned w16 c.args.date.year = omega (arith, signed_arith, c.args.date.year_in) in
    let test = simp to_z-of_z at c.if-date-lt-FIRST_YEAR.true in
    let below : c.args.date.year <ℤ pos 1970 = omega (arith, signed_arith, test) in
    sym (local_below c.args.date (time_nanos c.args.time / 10_000_000) below)

pub returns-in_err-day-clause-value : goal.returns-in_err-day-clause-value
returns-in_err-day-clause-value c =
    let fits : FitsSigned w16 c.args.date.year = omega (arith, signed_arith, c.args.date.year_in) in
    let wide : FitsSigned w32 c.args.date.year = omega (arith, signed_arith, c.args.date.year_in) in
    let test = simp to_z-of_z at c.if-date-lt-FIRST_YEAR.false in
    let from : pos 1970 ≤ℤ c.args.date.year = omega (arith, signed_arith, test) in
    let exists = simp to_z-of_z at c.new.ensures.exists in
    let value = simp to_z-of_z at c.new.ensures.value in
    let time = time_nanos c.args.time / 10_000_000 in
    let with_time : Date → LocalTime = λ date. record { day = date; time = time } in
    c.from_residual.ensures
    ∙ sym (local_on-new c.args.date time c.new.result from exists value ∙ ap (option_map with_time) c.in_err-day.was)

pub returns-clause-value : goal.returns-clause-value
returns-clause-value c =
    let fits : FitsSigned w16 c.args.date.year = omega (arith, signed_arith, c.args.date.year_in) in
    let wide : FitsSigned w32 c.args.date.year = omega (arith, signed_arith, c.args.date.year_in) in
    let test = simp to_z-of_z at c.if-date-lt-FIRST_YEAR.false in
    let from : pos 1970 ≤ℤ c.args.date.year = omega (arith, signed_arith, test) in
    let exists = simp to_z-of_z at c.new.ensures.exists in
    let value = simp to_z-of_z at c.new.ensures.value in
    let time = time_nanos c.args.time / 10_000_000 in
    let with_time : Date → LocalTime = λ date. record { day = date; time = time } in
    let reported = c.in_ok-time.ensures.value ∙ c.hundredths_of.ensures.value in
    ap (λ shown. Some (with_shown c.in_ok-day.day shown)) reported
    ∙ sym (local_on-new c.args.date time c.new.result from exists value ∙ ap (option_map with_time) c.in_ok-day.was)
  where
    with_shown : Date → ℕ → LocalTime
    with_shown date shown = record { day = date; time = shown }

pub returns-clause-parts : goal.returns-clause-parts
returns-clause-parts c =
    let fits : FitsSigned w16 c.args.date.year = omega (arith, signed_arith, c.args.date.year_in) in
    let wide : FitsSigned w32 c.args.date.year = omega (arith, signed_arith, c.args.date.year_in) in
    let same = simp to_z-of_z at c.in_ok-day.ensures.value in (
      epoch_day_same c.in_ok-day.day c.args.date same.0 (omega (arith, signed_arith, same.1)) (omega (arith, signed_arith, same.2)),
      c.in_ok-time.ensures.value ∙ c.hundredths_of.ensures.value,
    )
