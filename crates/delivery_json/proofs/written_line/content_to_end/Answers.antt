use Rattle.std.proofs.Common.{◌≡◌, ◌∙◌, ◌++◌, ap, of_z, to_z, w64, rules}
use Rattle.delivery_json.proofs.WrittenLemmas.{content_pieces}
use Rattle.delivery_json.proofs.written_line.content_to_end.Goals as goal

pub returns : goal.returns
returns c =
    let priority = c.in_ok-priority.priority in
    let whole : to_z w64 (of_z w64 priority) ≡ priority = search rules in
    rw whole (
      content_pieces c.args.text.now c.in_ok-rest.rest.now c.in_ok-point.rest.now c.in_ok-rest-2.rest.now c.in_ok-priority.rest.now
          c.in_ok-rest-3.rest.now (record { point = c.in_ok-point-2.point; priority = priority; value = c.in_ok-value.value })
          c.in_ok-rest.ensures (c.in_ok-point.ensures ∙ ap (λ l. l ++ c.in_ok-point.rest.now) c.in_ok-point-2.ensures.0)
          c.in_ok-rest-2.ensures c.in_ok-priority.ensures c.in_ok-rest-3.ensures c.in_ok-value.ensures,
      c.in_ok-point-2.ensures.1,
    )
