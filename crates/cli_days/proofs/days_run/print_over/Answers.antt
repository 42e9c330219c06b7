use Rattle.std.proofs.Common.{◌∙◌, List, OnOk, ap, subst}
use Rattle.std.specs.Io.KnownBytes.{Appends}
use Rattle.cli_common.proofs.PrintedLemmas.{start-nothing}
use Rattle.points.specs.Beginnings.{AppendsStart}
use Rattle.sched.specs.declared.calendar.Calendar.{Calendar}
use Rattle.cli_days.specs.DayLines.{days_text}
use Rattle.cli_days.proofs.SameLemmas.{days_text-same}
use Rattle.cli_days.proofs.days_run.print_over.Goals as goal

pub returns-clause-whole : goal.returns-clause-whole
returns-clause-whole g c = λ honest imported tells.
    let b = c.args.building.now in
    let range = c.args.range.now in
    let same = ap (λ (cs : List Calendar). days_text b cs range) c.as_slice.ensures.value
    ∙ days_text-same b _ _ range (c.in_ok-calendars.ensures.hold honest imported tells) in
    subst (λ text. OnOk c.print_days.result (Appends (g.W.Write.contents c.args.out.now) (g.W.Write.contents c.print_days.new.out) text))
    same c.print_days.ensures.whole

pub returns-clause-no_more : goal.returns-clause-no_more
returns-clause-no_more g c = λ honest imported tells.
    let b = c.args.building.now in
    let range = c.args.range.now in
    let same = ap (λ (cs : List Calendar). days_text b cs range) c.as_slice.ensures.value
    ∙ days_text-same b _ _ range (c.in_ok-calendars.ensures.hold honest imported tells) in
    subst (λ text. AppendsStart (g.W.Write.contents c.args.out.now) (g.W.Write.contents c.print_days.new.out) text)
    same c.print_days.ensures.no_more

pub returns-in_err-calendars-clause-no_more : goal.returns-in_err-calendars-clause-no_more
returns-in_err-calendars-clause-no_more g c = λ honest imported tells. start-nothing _ _
