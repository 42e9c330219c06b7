use Rattle.std.proofs.Common.{◌≡◌, ◌∙◌, ℤ, OnOk, Result, Ok, Err, ap, sym, subst, to_z, of_z, w64, rules}
use Rattle.deliveries.specs.declared.delivery.Delivery.{Delivery}
use Rattle.deliveries.specs.declared.delivery.Delivery.TheVariants.{Command, Import, Skip, Tick}
use Rattle.deliveries.specs.Events.{acted_on, machine}
use Rattle.desk_why.specs.Authors.{held_along}
use Rattle.desk_why.specs.Steps.{Becomes}
use Rattle.desk_why.proofs.steps.make_delivery.Goals as goal

pub returns-in-Command-clause-along : goal.returns-in-Command-clause-along
returns-in-Command-clause-along c = λ E held.
    let b = c.args.building.now in
    let number = c.in-Command.number in
    let whole : to_z w64 (of_z w64 number) ≡ number = search rules in
    subst (λ (d : Delivery). OnOk c.make_command.result
    (Becomes (held_along b (machine b E) (acted_on b E d)) c.args.authors.now c.make_command.new.authors))
    (ap (λ (z : ℤ). Command c.in-Command.panel z c.in-Command.content) whole ∙ sym c.in-Command.is) (c.make_command.ensures.along E held)

pub returns-in-Skip-clause-along : goal.returns-in-Skip-clause-along
returns-in-Skip-clause-along c = λ E held.
    let b = c.args.building.now in
    let upto = c.in-Skip.upto in
    let whole : to_z w64 (of_z w64 upto) ≡ upto = search rules in
    subst (λ (d : Delivery). OnOk c.make_skip.result
    (Becomes (held_along b (machine b E) (acted_on b E d)) c.args.authors.now c.make_skip.new.authors))
    (ap (Skip c.in-Skip.panel) whole ∙ sym c.in-Skip.is) (c.make_skip.ensures.along E held)

-- what holds of the table before a tick or an import is delivered holds still
still : {T F : Type 0} (r : Result T F) (P : Type 0) → P → OnOk r P
still (Ok x) P p = p
still (Err e) P p = tt

pub returns-in_ok-settle_tick-in-Tick-clause-along : goal.returns-in_ok-settle_tick-in-Tick-clause-along
returns-in_ok-settle_tick-in-Tick-clause-along c = λ E held.
    let b = c.args.building.now in
    let at = c.in-Tick.at in
    let whole : to_z w64 (of_z w64 at) ≡ at = search rules in
    still c.deliver_tick.result (Becomes (held_along b (machine b E) (acted_on b E c.args.delivery.now)) c.args.authors.now c.settle_tick.new.authors)
    (subst (λ (d : Delivery). Becomes (held_along b (machine b E) (acted_on b E d)) c.args.authors.now c.settle_tick.new.authors)
    (ap Tick whole ∙ sym c.in-Tick.is) (c.in_ok-settle_tick-in-Tick.ensures.along E held))

pub returns-in_ok-settle_import-in-Import-clause-along : goal.returns-in_ok-settle_import-in-Import-clause-along
returns-in_ok-settle_import-in-Import-clause-along c = λ E held.
    let b = c.args.building.now in
    still c.deliver_import.result (Becomes (held_along b (machine b E) (acted_on b E c.args.delivery.now)) c.args.authors.now c.settle_import.new.authors)
    (subst (λ (d : Delivery). Becomes (held_along b (machine b E) (acted_on b E d)) c.args.authors.now c.settle_import.new.authors)
    (ap Import c.as_slice.ensures ∙ sym c.in-Import.is) (c.in_ok-settle_import-in-Import.ensures.along E held))
