use Rattle.std.proofs.Common.{◌≡◌, ◌∙◌, ◌++◌, ◌∷◌, [], List, ℤ, map, sym, ap, subst, to_z, of_z, w64, rules}
use Rattle.deliveries.specs.declared.delivery.Delivery.{Delivery}
use Rattle.deliveries.specs.declared.delivery.Delivery.TheVariants.{Command}
use Rattle.deliveries.specs.Delivered.{Holds}
use Rattle.store_memory.specs.Memory.{standing_of}
use Rattle.deliveries.specs.StraightList.{sent}
use Rattle.desk_straighten.proofs.StoreLemmas.{before-after, next-held, on_ok, straightened-held, straightened_by-command}
use Rattle.desk_straighten.proofs.panel_asks.straighten_command.Goals as goal

pub push_moved-requires-clause-rises : goal.push_moved-requires-clause-rises
push_moved-requires-clause-rises c =
    let p = c.args.panel.now in
    let E = c.requires.some.earlier in
    let held = c.requires.some.holds in
    let d = Command p c.args.number c.args.content.now in
    let whole : to_z w64 (of_z w64 c.args.number) ≡ c.args.number = search rules in
    let done = subst (λ (z : ℤ). Holds c.args.building.now (E ++ Command p z c.args.content.now ∷ []) (standing_of c.deliver_command.new.store)) whole
    (c.in_ok-deliver_command.ensures.delivers E tt (c.in_ok-before.ensures.reads.kept tt (λ e. cc) ∙ held)).1 in
    before-after c.args.building.now p E d (standing_of c.deliver_command.new.store) c.in_ok-before.before done
    (c.in_ok-before.ensures.value tt ∙ next-held c.args.building.now E (standing_of c.args.store.now) held p)

pub returns-clause-straightens : goal.returns-clause-straightens
returns-clause-straightens c = λ E held.
    let b = c.args.building.now in
    let p = c.args.panel.now in
    let d = Command p c.args.number c.args.content.now in
    let was = c.args.straightened.now.items in
    let whole : to_z w64 (of_z w64 c.args.number) ≡ c.args.number = search rules in
    let done = subst (λ (z : ℤ). Holds b (E ++ Command p z c.args.content.now ∷ []) (standing_of c.deliver_command.new.store)) whole
    (c.in_ok-deliver_command.ensures.delivers E tt (c.in_ok-before.ensures.reads.kept tt (λ e. cc) ∙ held)).1 in
    let at = c.in_ok-before.ensures.value tt ∙ next-held b E (standing_of c.args.store.now) held p in
    on_ok c.push_moved.result _ _
    (λ is. is
    ∙ (ap (λ xs. was ++ map (sent p) xs) (straightened-held b p E d (standing_of c.deliver_command.new.store) c.in_ok-before.before done at)
    ∙ ap (λ (xs : List Delivery). was ++ xs) (sym (straightened_by-command b E p c.args.number c.args.content.now))))
    c.push_moved.ensures.straightens
