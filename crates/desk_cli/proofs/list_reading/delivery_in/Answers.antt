use Rattle.std.proofs.Common.{[], refl, rules}
use Rattle.desk_cli.proofs.CollectLemmas.{collects_delivery, collects_empty, collects_refused}
use Rattle.desk_cli.proofs.list_reading.delivery_in.Goals as goal

pub returns-then-is_empty : goal.returns-then-is_empty
returns-then-is_empty c = collects_empty _ _ [] (search rules)

pub returns-in-Ok-Delivery : goal.returns-in-Ok-Delivery
returns-in-Ok-Delivery c =
    collects_delivery _ c.args.line.now [] _ c.in-Ok-Delivery.delivery (search rules)
    (rw c.in-Ok-Delivery.field-0-is at c.in-Ok-Delivery.ensures) refl

pub returns-in-Ok-RefusedImport : goal.returns-in-Ok-RefusedImport
returns-in-Ok-RefusedImport c =
    collects_refused _ c.args.line.now [] c.in-Ok-RefusedImport.field-0-0 (search rules)
    (rw c.in-Ok-RefusedImport.field-0-is at c.in-Ok-RefusedImport.ensures)
