use Rattle.std.proofs.Common.{◌≡◌, ◌∙◌, [], ◌∷◌, Some, ap, arith}
use Rattle.json.specs.Lex.{tokens}
use Rattle.json.specs.Token.{begin_object}
use Rattle.delivery_json.proofs.GrammarLemmas.{object_read}
use Rattle.delivery_json.proofs.object_members.read_members.Goals as goal

pub returns-in-None : goal.returns-in-None
returns-in-None c =
    let rest = c.next.new.self in
    let found = c.in_ok-parsed.ensures in
    let opened : tokens c.args.text.now ≡ begin_object ∷ rest = grind arith in
    let ended : c.members_to_end.new.reader ≡ [] = c.in-None.ensures.value.0 in
    (found.0, object_read c.args.text.now rest found.0 opened (found.1 ∙ ap (λ r. Some (found.0, r)) ended), found.2)
