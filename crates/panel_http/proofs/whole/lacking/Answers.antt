use Rattle.std.proofs.Common.{refl, rules}
use Rattle.std.proofs.lemmas.Bool.{false≢true}
use Rattle.panel_http.proofs.WholeLemmas.{begun-lacks, empty-lacks, ended-lacks, full-lacks, head-lacks, refused-lacks}
use Rattle.panel_http.proofs.whole.lacking.Goals as goal

pub returns-then-is_empty : goal.returns-then-is_empty
returns-then-is_empty c = λ building. empty-lacks building c.args.come.now (search rules)

pub returns-in-Err : goal.returns-in-Err
returns-in-Err c = λ building. refused-lacks building c.min.result c.args.come.now (search rules) (search rules) (search rules)

pub returns-in-Ok-Partial : goal.returns-in-Ok-Partial
returns-in-Ok-Partial c = λ building.
    full-lacks building c.min.result c.args.come.now (search rules) (search rules)
    (rw c.in-Ok-Partial.field-0-is at c.in-Ok-Partial.ensures.partial)

pub returns-in-Ok-Partial-2 : goal.returns-in-Ok-Partial-2
returns-in-Ok-Partial-2 c = λ building.
    begun-lacks building c.min.result c.args.come.now (search rules) (rw c.in-Ok-Partial.field-0-is at c.in-Ok-Partial.ensures.partial)
    (c.if-may_begin.ensures.may refl)

pub returns-in-Ok-Partial-3 : goal.returns-in-Ok-Partial-3
returns-in-Ok-Partial-3 c = λ building.
    ended-lacks building c.min.result c.args.come.now (search rules) (search rules)
    (rw c.in-Ok-Partial.field-0-is at c.in-Ok-Partial.ensures.partial)
    (λ may. false≢true (c.if-may_begin.ensures.exact may))

pub returns-in-Ok-Complete : goal.returns-in-Ok-Complete
returns-in-Ok-Complete c = λ building.
    head-lacks building c.min.result c.args.come.now c.parse_request.new.headers c.in-Ok-Complete.spans _
    (search rules) (search rules) (search rules)
    (rw c.in-Ok-Complete.field-0-is at c.in-Ok-Complete.ensures.within)
    (rw c.in-Ok-Complete.field-0-is at c.in-Ok-Complete.ensures.complete)
    (λ head parts. c.body_lacking.ensures head parts)
