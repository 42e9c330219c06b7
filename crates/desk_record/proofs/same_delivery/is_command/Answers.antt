use Rattle.std.proofs.Common.{◌≡◌, ◌∙◌, sym, rules}
use Rattle.points.proofs.ContentLemmas.{content_eq-Decides}
use Rattle.desk_record.proofs.same_delivery.is_command.Goals.{then-eq, else-eq}
use Rattle.desk_record.proofs.same_delivery.is_command.Goals as goal

pub returns-then-numbered-number : goal.returns-then-numbered-number
returns-then-numbered-number c = λ same.
    let content : c.in-Command.asked ≡ c.args.content.now =
    (content_eq-Decides c.in-Command.asked c.args.content.now).0 (sym c.is_same_as.ensures ∙ same) in
    let is = c.in-Command.is in
    search rules
