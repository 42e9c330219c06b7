-- The index of one more name.
use Rattle.std.proofs.Common.{◌≡◌, List, ℕ, ◌++◌, ◌∷◌, [], length, position, bytes_eq, sym, ap, ◌∙◌}
use Rattle.points.specs.NameIndex.{is_among}
use Rattle.points.proofs.NameIndexLemmas.{IsIndex-push}
use Rattle.points.proofs.name_index.NameIndex.insert.Goals as goal

pub invariant_of-self-2 : goal.invariant_of-self-2
invariant_of-self-2 c =
    let names = c.self.inside.names.items in
    let pushed : c.push.new.self.items ≡ names ++ c.args.name ∷ [] =
    c.in_ok-push.ensures.items ∙ ap (λ (ns : List (List ℕ)). ns ++ c.args.name ∷ []) c.reserve.ensures.items in
    let last : length c.as_slice-position.result.now ≡ length names = ap length (c.as_slice-position.ensures ∙ sym c.self.view_is) in
    let step =
    IsIndex-push c.self.inside.positions c.insert.new.self names c.args.name (length c.as_slice-position.result.now) last c.self.invariant
    (ap (is_among c.args.name) c.self.view_is ∙ (sym c.contains.ensures ∙ c.if-contains.false)) c.in_ok-insert.ensures.updates in
    λ q. step q ∙ ap (position (λ n. bytes_eq n q)) (sym pushed)
