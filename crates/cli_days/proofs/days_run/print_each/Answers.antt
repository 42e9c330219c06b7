use Rattle.std.proofs.Common.{◌∙◌, arith}
use Rattle.cli_common.proofs.PrintedLemmas.{Appends-nothing, start-taken, start-whole}
use Rattle.cli_days.specs.DayLines.{day_lines}
use Rattle.cli_days.proofs.PrintLemmas.{printed-more, started-more}
use Rattle.cli_days.proofs.days_run.print_each.Goals as goal

pub loop-day-init : goal.loop-day-init
loop-day-init g c = Appends-nothing _

pub loop-day-preserved : goal.loop-day-preserved
loop-day-preserved g c =
    printed-more (day_lines c.args.building.now c.args.calendars.now) c.args.days.now c.loop-day.day-index c.day-item.result
    c.as_bytes.result.now (omega (arith, c.loop-day-test.true)) c.day-item.is (c.as_bytes.ensures.value ∙ c.in_ok-text.ensures) _ _ _
    c.loop-day.invariant c.in_ok-print_text.ensures.whole

pub returns-in_err-text-clause-no_more : goal.returns-in_err-text-clause-no_more
returns-in_err-text-clause-no_more g c =
    start-taken (day_lines c.args.building.now c.args.calendars.now) c.args.days.now c.loop-day.day-index _ _
    (start-whole _ _ _ c.loop-day.invariant)

pub returns-in_err-print_text-clause-no_more : goal.returns-in_err-print_text-clause-no_more
returns-in_err-print_text-clause-no_more g c =
    started-more (day_lines c.args.building.now c.args.calendars.now) c.args.days.now c.loop-day.day-index c.day-item.result
    c.as_bytes.result.now (omega (arith, c.loop-day-test.true)) c.day-item.is (c.as_bytes.ensures.value ∙ c.in_ok-text.ensures) _ _ _
    c.loop-day.invariant c.print_text.ensures.no_more

pub returns-clause-no_more : goal.returns-clause-no_more
returns-clause-no_more g c =
    start-taken (day_lines c.args.building.now c.args.calendars.now) c.args.days.now c.loop-day.day-index _ _
    (start-whole _ _ _ c.loop-day.invariant)
