use Rattle.std.proofs.Common.{◌∙◌, ap, is_some}
use Rattle.desk.proofs.OpeningLemmas.{placed-any}
use Rattle.desk.proofs.opening.has_calendar.Goals as goal

pub returns : goal.returns
returns c = c.is_some.ensures ∙ (ap is_some c.calendar_index.ensures ∙ placed-any _ c.args.building.now.calendars)
