use Rattle.std.proofs.Common.{◌≡◌, ◌∙◌, None, sym, ap, not, refl, subst, to_z, of_z, w64, rules}
use Rattle.std.proofs.lemmas.Bool.{false≢true}
use Rattle.desk_commands.specs.Carried.{Carries, Replies}
use Rattle.desk_commands.proofs.CarryLemmas.{makes_once-reply, reply-goes}
use Rattle.desk_commands.proofs.DeliverLemmas.{Delivers-made, Delivers-unchanged, in_range, none_of}
use Rattle.desk_commands.proofs.answering.answer_plan.Goals as goal

pub returns-then-is_none-clause-makes : goal.returns-then-is_none-clause-makes
returns-then-is_none-clause-makes g c =
    let old = g.S.Store.standing c.args.store.now in
    makes_once-reply _ old c.requires.open
    (reply-goes c.args.plan.now.verdict c.args.next c.args.plan.now.next _ None c.reply_on.result old c.reply_on.ensures c.requires.open)

pub returns-then-is_none-clause-delivers : goal.returns-then-is_none-clause-delivers
returns-then-is_none-clause-delivers g c = λ earlier delivery ask planned honest held.
    let plan = c.args.plan.now in
    let now = g.S.Store.standing c.args.store.now in
    let whole : to_z w64 (of_z w64 c.args.number) ≡ c.args.number = search rules in
    Delivers-unchanged c.args.building.now earlier delivery ask c.args.panel.now c.args.next c.args.number plan c.requires.known planned
    c.reply_on.result now now
    (subst (λ z. Replies plan.verdict c.args.next plan.next z None c.reply_on.result) whole c.reply_on.ensures)
    c.if-plan-next.true (none_of plan.park (c.is_none.ensures ∙ ap not c.if-is_none.true)) held refl

pub returns-then-not-is_in_range-clause-delivers : goal.returns-then-not-is_in_range-clause-delivers
returns-then-not-is_in_range-clause-delivers g c = λ earlier delivery ask planned honest held.
    let fits =
    in_range c.args.building.now earlier delivery ask c.args.panel.now c.args.next c.args.number c.args.plan.now
    c.requires.known planned in
    absurd (false≢true (sym c.if-not-is_in_range.true ∙ (c.is_in_range.ensures ∙ fits)))

pub returns-clause-delivers : goal.returns-clause-delivers
returns-clause-delivers g c = λ earlier delivery ask planned honest held.
    let old = g.S.Store.standing c.args.store.now in
    let new = g.S.Store.standing c.carry_out.new.store in
    let whole : to_z w64 (of_z w64 c.args.number) ≡ c.args.number = search rules in
    Delivers-made c.args.building.now earlier delivery ask c.args.panel.now c.args.next c.args.number c.args.plan.now
    c.requires.known planned c.carry_out.result
    old new c.requires.open
    (subst (λ z. Carries c.args.building.now c.args.panel.now.name c.args.plan.now c.args.next z c.carry_out.result old new) whole
    c.carry_out.ensures.carries)
    honest held
