use Rattle.std.proofs.Common.{◌∙◌, ◌<◌, ◌≤◌, length, option_copied, sym, arith, true}
use Rattle.sched.proofs.ChosenLemmas.{chosen-best_from}
use Rattle.building_hints.specs.ListHints.{is_nearer}
use Rattle.building_hints.proofs.NearestLemmas.{best-last, best-step, settles_nearer}
use Rattle.building_hints.proofs.list_hints.nearest.Goals as goal

pub loop-calendar-preserved : goal.loop-calendar-preserved
loop-calendar-preserved c =
    let list = c.args.calendars.now in
    let within : c.loop-calendar.calendar-index < length list = omega (arith, c.loop-calendar-test.true) in
    best-step c.args.text.now list c.loop-calendar.calendar-index c.calendar-item.result within c.calendar-item.is
    (option_copied c.loop-calendar.best) (option_copied c.in_ok-best.best) c.in_ok-best.ensures c.loop-calendar.invariant

pub returns : goal.returns
returns c =
    let list = c.args.calendars.now in
    let ended : length list ≤ c.loop-calendar.calendar-index = omega (arith, c.loop-calendar-test.false) in
    best-last c.args.text.now list c.loop-calendar.calendar-index ended (option_copied c.loop-calendar.best) c.loop-calendar.invariant
    ∙ sym (chosen-best_from (λ _. true) (is_nearer c.args.text.now) (settles_nearer c.args.text.now) list)
