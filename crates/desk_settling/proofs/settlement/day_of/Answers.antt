use Rattle.std.proofs.Common.{◌≡◌, List, subst}
use Rattle.desk_settling.specs.Calendars.{calendars_of}
use Rattle.sched.specs.Calendar.{hold_on}
use Rattle.points.specs.Texts.{Text}
use Rattle.desk_settling.proofs.KeptLemmas.{if_ok_map, no_items}
use Rattle.desk_settling.proofs.settlement.day_of.Goals as goal

pub returns-clause-today : goal.returns-clause-today
returns-clause-today g c = λ honest today imported tells.
    if_ok_map c.new_day.result _ _ (c.new_day.ensures.today honest imported tells) (λ found same.
    subst (λ (texts : Text → List Text). hold_on c.args.day found.calendars.items ≡ hold_on c.args.day (calendars_of c.args.building.now texts))
    (no_items imported) same)
