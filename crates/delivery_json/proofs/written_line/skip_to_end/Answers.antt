use Rattle.std.proofs.Common.{◌≡◌, ◌∙◌, ◌++◌, ◌^◌, ◌<◌, ap, of_z, to_z, w64, rules}
use Rattle.std.specs.Int.Signed.{mag}
use Rattle.delivery_json.proofs.WrittenLemmas.{skip_pieces, written_skip}
use Rattle.delivery_json.proofs.written_line.skip_to_end.Goals as goal

pub returns : goal.returns
returns c = λ line is_text begins.
    let upto = c.in_ok-upto.upto in
    let panel = c.in_ok-panel-2.panel in
    let whole : to_z w64 (of_z w64 upto) ≡ upto = search rules in
    let fits : mag upto < 2 ^ 63 = search rules in
    let named = c.in_ok-panel.ensures ∙ ap (λ l. l ++ c.in_ok-panel.rest.now) c.in_ok-panel-2.ensures.0 in
    let same = skip_pieces line c.args.text.now c.in_ok-panel.rest.now c.in_ok-rest.rest.now panel upto begins named
    c.in_ok-rest.ensures c.in_ok-upto.ensures in
    rw whole (written_skip line panel upto c.in_ok-panel-2.ensures.1 fits is_text same)
