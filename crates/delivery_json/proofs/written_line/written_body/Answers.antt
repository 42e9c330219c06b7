use Rattle.std.proofs.Common.{◌≡◌, ◌∙◌, ◌^◌, ◌<◌, IfSome, Some, sym, of_z, to_z, w64, rules}
use Rattle.std.specs.Int.Signed.{mag}
use Rattle.points.specs.Texts.{text_of}
use Rattle.delivery_json.proofs.WrittenLemmas.{body_pieces, written_object}
use Rattle.delivery_json.proofs.written_line.written_body.Goals as goal

pub returns : goal.returns
returns c =
    let number = c.in_ok-number.number in
    let content = c.in_ok-content.content in
    let whole : to_z w64 (of_z w64 number) ≡ number = search rules in
    let fits : mag number < 2 ^ 63 = search rules in
    let priority : mag content.priority < 2 ^ 63 = search rules in
    let value : IfSome content.value (λ z. mag z < 2 ^ 63) = search rules in
    let is_whole : c.in_ok-text.text.now ≡ c.args.body.now = search rules in
    let is_text : text_of c.args.body.now ≡ Some c.args.body.now = search rules in
    let same = body_pieces c.args.body.now c.in_ok-rest.rest.now c.in_ok-number.rest.now c.in_ok-rest-2.rest.now number content
    (sym is_whole ∙ c.in_ok-rest.ensures) c.in_ok-number.ensures c.in_ok-rest-2.ensures c.in_ok-content.ensures.0 in
    rw whole (written_object c.args.body.now number content c.in_ok-content.ensures.1 fits (priority, value) is_text same)
