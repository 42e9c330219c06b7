use Rattle.std.proofs.Common.{nat_lt, rules, tests}
use Rattle.std.proofs.lemmas.Iterator.{YieldsList-from_slice}
use Rattle.std.proofs.lemmas.Iterator.Search.{find_from_yields_List}
use Rattle.sched.specs.declared.day_list.TimeValue.{TimeValue}
use Rattle.sched.proofs.changes.first_after.Goals as goal

pub returns : goal.returns
returns c =
    let found = find_from_yields_List (λ (segment : TimeValue). nat_lt c.args.time segment.time) _ _ c.find.result c.find.ensures.ran
    (YieldsList-from_slice c.args.segments.now cc) (λ x b q k. search (rules, tests)) in
    cc (c.copied.ensures, found)
