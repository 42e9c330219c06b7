use Rattle.std.proofs.Common.{◌≡◌, ◌∙◌, ◌++◌, ◌^◌, ◌<◌, IfSome, ap, of_z, to_z, w64, rules}
use Rattle.std.specs.Int.Signed.{mag}
use Rattle.delivery_json.proofs.WrittenLemmas.{line_pieces, written_command}
use Rattle.delivery_json.proofs.written_line.command_to_end.Goals as goal

pub returns : goal.returns
returns c = λ line is_text begins.
    let number = c.in_ok-number.number in
    let panel = c.in_ok-panel-2.panel in
    let content = c.in_ok-content.content in
    let whole : to_z w64 (of_z w64 number) ≡ number = search rules in
    let fits : mag number < 2 ^ 63 = search rules in
    let priority : mag content.priority < 2 ^ 63 = search rules in
    let value : IfSome content.value (λ z. mag z < 2 ^ 63) = search rules in
    let named = c.in_ok-panel.ensures ∙ ap (λ l. l ++ c.in_ok-panel.rest.now) c.in_ok-panel-2.ensures.0 in
    let same = line_pieces line c.args.text.now c.in_ok-number.rest.now c.in_ok-rest.rest.now
    c.in_ok-panel.rest.now c.in_ok-rest-2.rest.now panel number content begins c.in_ok-number.ensures
    c.in_ok-rest.ensures named c.in_ok-rest-2.ensures c.in_ok-content.ensures.0 in
    rw whole
    (written_command line panel number content c.in_ok-panel-2.ensures.1 c.in_ok-content.ensures.1 fits (priority, value) is_text same)
