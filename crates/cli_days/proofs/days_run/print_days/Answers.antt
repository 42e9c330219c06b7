use Rattle.std.proofs.Common.{◌∙◌, ap, subst}
use Rattle.std.specs.Io.KnownBytes.{Appends}
use Rattle.std.specs.List.{flat_map}
use Rattle.cli_common.proofs.PrintedLemmas.{Appends-Keeps, start-Keeps, start-nothing}
use Rattle.points.specs.Beginnings.{AppendsStart}
use Rattle.cli_days.specs.DayLines.{day_lines}
use Rattle.cli_days.proofs.ListedLemmas.{of_any}
use Rattle.cli_days.proofs.days_run.print_days.Goals as goal

pub returns-clause-whole : goal.returns-clause-whole
returns-clause-whole g c =
    let days = c.as_slice.ensures.value ∙ c.in_ok-days.ensures in
    of_any c.flush.result _ (subst (λ text. Appends (g.W.Write.contents c.args.out.now) (g.W.Write.contents c.flush.new.out) text)
    (ap (flat_map (day_lines c.args.building.now c.args.calendars.now)) days)
    (Appends-Keeps _ _ _ _ c.in_ok-print_each.ensures.whole c.flush.ensures))

pub returns-clause-no_more : goal.returns-clause-no_more
returns-clause-no_more g c =
    let days = c.as_slice.ensures.value ∙ c.in_ok-days.ensures in
    subst (λ text. AppendsStart (g.W.Write.contents c.args.out.now) (g.W.Write.contents c.flush.new.out) text)
    (ap (flat_map (day_lines c.args.building.now c.args.calendars.now)) days)
    (start-Keeps _ _ _ _ c.print_each.ensures.no_more c.flush.ensures)

pub returns-in_err-print_each-clause-no_more : goal.returns-in_err-print_each-clause-no_more
returns-in_err-print_each-clause-no_more g c =
    let days = c.as_slice.ensures.value ∙ c.in_ok-days.ensures in
    subst (λ text. AppendsStart (g.W.Write.contents c.args.out.now) (g.W.Write.contents c.print_each.new.out) text)
    (ap (flat_map (day_lines c.args.building.now c.args.calendars.now)) days) c.print_each.ensures.no_more

pub returns-in_err-days-clause-no_more : goal.returns-in_err-days-clause-no_more
returns-in_err-days-clause-no_more g c = start-nothing _ _
