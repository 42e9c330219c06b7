use Rattle.std.proofs.Common.{◌≡◌, Some, option_and_then, rules}
use Rattle.serde_json.specs.Data.{object}
use Rattle.points.specs.Texts.{text_of}
use Rattle.delivery_json.specs.DeliveryLine.{delivery_in, json_of}
use Rattle.delivery_json.proofs.UsualLemmas.{read_delivery, some-weaker}
use Rattle.delivery_json.proofs.usual_line.command_by_members.Goals as goal

pub returns : goal.returns
returns c =
    let text = c.in_ok-text_of.field-0.now in
    let found = c.in_ok-members.ensures in
    let texted : text_of c.args.line.now ≡ Some text = search rules in
    some-weaker _ (λ command. option_and_then delivery_in (json_of c.args.line.now) ≡ Some command) c.command_of.result
    (λ command tells. read_delivery c.args.line.now text (object found.0) command texted found.1 (tells found.0 found.2))
    c.command_of.ensures
