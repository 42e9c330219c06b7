use Rattle.std.proofs.Common.{sym}
use Rattle.std.proofs.lemmas.Bool.Decides.{Decides-int_eq}
use Rattle.dates.proofs.DayLemmas.{same_date}
use Rattle.jiff_core.specs.Date.{epoch_day}
use Rattle.desk_settling.proofs.kept.Kept.take.Goals as goal

pub returns-in-Some-clause-was : goal.returns-in-Some-clause-was
returns-in-Some-clause-was c = (
  sym c.in-Some.ensures.value,
  same_date c.in-Some.kept.day c.args.day ((Decides-int_eq (epoch_day c.in-Some.kept.day) (epoch_day c.args.day)).0 (sym c.if-eq.ensures)),
)
