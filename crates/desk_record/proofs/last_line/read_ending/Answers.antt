use Rattle.std.proofs.Common.{◌∙◌, sym}
use Rattle.desk_record.proofs.LastLemmas.{tells-last}
use Rattle.desk_record.proofs.last_line.read_ending.Goals as goal

pub returns-in-Ok-Delivery : goal.returns-in-Ok-Delivery
returns-in-Ok-Delivery c =
    tells-last c.args.building.now c.in-Ok-Delivery.delivery c.args.from c.args.bytes.now c.in-Some.last
    (rw c.in-Some.is at c.in_ok-last.ensures.found) (sym c.may_be_torn-2.ensures ∙ c.if-not-may_be_torn.false)
    (rw c.in-Ok-Delivery.field-0-is at c.in-Ok-Delivery.ensures)
