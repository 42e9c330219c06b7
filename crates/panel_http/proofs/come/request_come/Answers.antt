use Rattle.std.proofs.Common.{refl, rules}
use Rattle.panel_http.proofs.ComeLemmas.{asked-whole}
use Rattle.panel_http.proofs.come.request_come.Goals as goal

pub returns-then-not-may_be_part : goal.returns-then-not-may_be_part
returns-then-not-may_be_part c =
    let may = c.if-not-may_be_part.ensures in
    (asked-whole c.args.building.now c.args.come.now c.in-Ok.request (search rules) c.in-Ok.ensures (may.head refl) (may.body refl), c.in-Ok.ensures)

pub returns-in-0 : goal.returns-in-0
returns-in-0 c = ((c.lacking-2.ensures c.args.building.now).whole.0 c.in-0.is, c.in-Ok.ensures)
