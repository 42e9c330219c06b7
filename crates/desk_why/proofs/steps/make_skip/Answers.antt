use Rattle.std.proofs.Common.{◌≡◌, ◌∙◌, ◌++◌, ◌∷◌, [], ℤ, subst, to_z, of_z, w64, rules}
use Rattle.deliveries.specs.declared.delivery.Delivery.TheVariants.{Skip}
use Rattle.deliveries.specs.Delivered.{Holds}
use Rattle.store_memory.specs.Memory.{standing_of}
use Rattle.desk_straighten.proofs.StoreLemmas.{before-after, next-held}
use Rattle.desk_why.proofs.RunLemmas.{passed-along}
use Rattle.desk_why.proofs.steps.make_skip.Goals as goal

pub returns-clause-along : goal.returns-clause-along
returns-clause-along c = λ E held.
    let first = c.in_ok-last.ensures.reads.kept tt (λ e. cc) ∙ held in
    let second = c.in_ok-before.ensures.reads.kept tt (λ e. cc) ∙ first in
    let whole : to_z w64 (of_z w64 c.args.upto) ≡ c.args.upto = search rules in
    let done = subst (λ (z : ℤ). Holds c.args.building.now (E ++ Skip c.args.panel.now z ∷ []) (standing_of c.deliver_skip.new.store)) whole
    (c.in_ok-reply.ensures.delivers E tt second).1 in
    let d = Skip c.args.panel.now c.args.upto in
    let next = c.in_ok-before.ensures.value tt ∙ next-held c.args.building.now E (standing_of c.last_tick.new.self) first c.args.panel.now in
    let rises = before-after c.args.building.now c.args.panel.now E d (standing_of c.deliver_skip.new.store) c.in_ok-before.before done next in
    passed-along c.args.building.now E d (standing_of c.args.store.now) (standing_of c.deliver_skip.new.store)
    c.in_ok-before.before c.in_ok-last.last c.as_slice.result.now tt held done (c.in_ok-last.ensures.value tt) next
    (c.as_slice.ensures.value ∙ c.in_ok-run.ensures.rows (record { earlier = E ++ d ∷ []; holds = done }) rises)
    c.args.authors.now c.act_on_run.new.authors c.in_ok-act_on_run.ensures
