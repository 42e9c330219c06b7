use Rattle.std.proofs.Common.{refl}
use Rattle.cli_days.proofs.days_run.asked_range.Goals as goal

pub returns : goal.returns
returns c = record {
  first = c.in-Some.first;
  last = c.in-Some-read.last;
  first_is = (c.in-Some.ensures c.in-Some.first).0 refl;
  last_is = (c.in-Some-read.ensures c.in-Some-read.last).0 refl;
  range_is = refl;
}
