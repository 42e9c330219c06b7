use Rattle.std.proofs.Common.{◌≡◌, ◌∙◌, ◌++◌, ◌^◌, ◌<◌, ap, codes, of_z, to_z, w64, rules}
use Rattle.std.specs.Int.Signed.{mag}
use Rattle.delivery_json.proofs.WrittenLemmas.{written_tick}
use Rattle.delivery_json.proofs.written_line.tick_to_end.Goals as goal

pub returns : goal.returns
returns c = λ line is_text begins.
    let at = c.in_ok-at.at in
    let whole : to_z w64 (of_z w64 at) ≡ at = search rules in
    let fits : mag at < 2 ^ 63 = search rules in
    rw whole (written_tick line at fits is_text (begins ∙ ap (λ l. codes "{\"tick\":" ++ l) c.in_ok-at.ensures))
