use Rattle.std.proofs.Common.{◌≡◌, ◌+◌, ◌∷◌, ◌∙◌, Some, ap, slice_get, slice_index_or, subst, sym}
use Rattle.std.specs.List.{remove}
use Rattle.points.specs.Run.{IsRun}
use Rattle.desk_commands.proofs.ViewLemmas.{head_of, one_stands}
use Rattle.desk_commands.proofs.viewing.asked_and_behind.Goals as goal

pub returns-in-Some : goal.returns-in-Some
returns-in-Some c all run =
    let rows = c.args.rows.items in
    let number = c.args.number in
    let found = c.in-Some.found.now in
    let first = c.remove-first.result in
    let stands : rows ≡ found ∷ remove rows 0 =
    head_of rows found (c.in-Some.ensures.value ∙ ap (λ l. slice_get l 0) c.deref.ensures.value) in
    let same : first ≡ found = c.remove-first.ensures.value ∙ ap (λ l. slice_index_or l 0 first) stands in
    let both = one_stands all number found (remove rows 0) c.if-found-number.true (subst (IsRun all number (number + 1)) stands run) in
    (ap (λ row. Some row.row) same ∙ both.0, subst (IsRun all (number + 1) (number + 1)) (sym c.remove-first.ensures.items) both.1)
