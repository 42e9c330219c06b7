use Rattle.std.proofs.Common.{◌∙◌, sym, ap, Some}
use Rattle.deliveries.specs.declared.delivery.Delivery.{Delivery}
use Rattle.delivery_json.specs.declared.parsed_line.ParsedLine.TheVariants as parsed
use Rattle.desk_record.proofs.record.tells.Goals as goal

pub returns-in-Ok-true : goal.returns-in-Ok-true
returns-in-Ok-true c = record {
  one = sym c.has_end.ensures ∙ c.if-has_end.false;
  tells = (rw c.in-Ok-Delivery.field-0-is at c.in-Ok-Delivery.ensures)
      ∙ ap (λ (delivery : Delivery). Some (parsed.Delivery delivery)) (c.in-Ok-true.ensures c.in-Ok-true.field-0-test);
}
