use Rattle.std.proofs.Common.{◌∙◌, ◌∷◌, ◌++◌, [], subst, sym}
use Rattle.building.specs.Building.{Building}
use Rattle.deliveries.specs.Delivered.{Holds}
use Rattle.cli_record.proofs.replayed.with_last.Goals as goal

pub returns-in-Ok-deliver-clause-made : goal.returns-in-Ok-deliver-clause-made
returns-in-Ok-deliver-clause-made g c = λ earlier holds honest.
    let after = g.T.Store.standing c.deliver.new.self.store in
    let same = c.in-Ok.ensures.building in
    let honest_then = subst (λ s. (g.T.Store.standing s).is_honest) c.into_parts.ensures.store honest in
    let held = c.in-Ok.ensures.opened.kept (c.in-Ok-deliver.ensures.goes.honest honest_then) (λ e. absurd (let no = e in cc)) ∙ holds in
    let delivered = c.in-Ok-deliver.ensures.delivers earlier honest_then
    (subst (λ (b : Building). Holds b earlier (g.T.Store.standing c.in-Ok.desk.store)) (sym same) held) in
    subst (λ s. Holds c.args.building (earlier ++ c.args.last.now ∷ []) (g.T.Store.standing s)) (sym c.into_parts.ensures.store)
    (subst (λ (b : Building). Holds b (earlier ++ c.args.last.now ∷ []) after) same delivered.1)
