use Rattle.std.proofs.Common.{◌∙◌, Some, sym}
use Rattle.std.proofs.lemmas.Bool.Decides.{Decides-int_eq}
use Rattle.dates.proofs.DayLemmas.{same_date}
use Rattle.jiff_core.specs.Date.{epoch_day}
use Rattle.desk_settling.proofs.settlement.time_on.Goals as goal

pub returns-in-Some : goal.returns-in-Some
returns-in-Some c =
    let local = c.in-Some.local in
    c.in-Some.is ∙ (λ i. Some (record {
      day = same_date local.day c.args.day ((Decides-int_eq (epoch_day local.day) (epoch_day c.args.day)).0 (sym c.if-eq.ensures)) i;
      time = local.time;
    }))
