use Rattle.std.proofs.Common.{◌≡◌, ◌∙◌, sym, ap, subst, option_copied, to_z, of_z, w64, rules}
use Rattle.deliveries.specs.declared.delivery.Delivery.TheVariants.{Skip}
use Rattle.deliveries.specs.Delivered.{Delivers}
use Rattle.std.specs.Result.{result_err}
use Rattle.desk_commands.specs.Carried.{MakesOnce}
use Rattle.desk_commands.proofs.CarryLemmas.{makes_once-then}
use Rattle.desk_commands.proofs.DeliverLemmas.{Delivers-unknown}
use Rattle.desk_commands.proofs.CommandLemmas.{name_of-named, named-again}
use Rattle.desk_commands.proofs.PlannedLemmas.{next-held}
use Rattle.desk_commands.proofs.answering.deliver_skip.Given as given
use Rattle.desk_commands.proofs.answering.deliver_skip.Goals.{After-answer_known_skip}
use Rattle.desk_commands.proofs.answering.deliver_skip.Goals as goal

makes : (g : given.Over) (c : After-answer_known_skip g)
    → MakesOnce (result_err c.answer_known_skip.result) (g.S.Store.standing c.args.store.now) (g.S.Store.standing c.answer_known_skip.new.store)
makes g c =
    makes_once-then _ (g.S.Store.standing c.args.store.now) (g.S.Store.standing c.panel_next.new.self)
    (g.S.Store.standing c.answer_known_skip.new.store) c.in_ok-next.ensures.reads c.answer_known_skip.ensures.makes

pub answer_known_skip-requires-clause-known : goal.answer_known_skip-requires-clause-known
answer_known_skip-requires-clause-known g c =
    named-again c.args.building.now c.args.name.now c.in-Some.panel.now (sym c.find_panel.ensures ∙ ap option_copied c.in-Some.is)

pub returns-clause-delivers : goal.returns-clause-delivers
returns-clause-delivers g c = λ earlier honest held.
    let b = c.args.building.now in
    let panel = c.in-Some.panel.now in
    let new = g.S.Store.standing c.answer_known_skip.new.store in
    let name = name_of-named b c.args.name.now panel (sym c.find_panel.ensures ∙ ap option_copied c.in-Some.is) in
    let before = c.answer_known_skip.ensures.makes.goes.honest honest in
    let next_is = next-held b earlier panel.name c.args.name.now c.in_ok-next.next _ (sym name) held (c.in_ok-next.ensures.value before) in
    let whole : to_z w64 (of_z w64 c.args.upto) ≡ c.args.upto = search rules in
    subst (λ p. Delivers b earlier (Skip p c.args.upto) c.answer_known_skip.result new) name
    (subst (λ z. Delivers b earlier (Skip panel.name z) c.answer_known_skip.result new) whole
    (c.answer_known_skip.ensures.delivers earlier next_is honest (c.in_ok-next.ensures.reads.kept before (λ e. cc) ∙ held)))

pub returns-in_default-clause-delivers : goal.returns-in_default-clause-delivers
returns-in_default-clause-delivers g c = λ earlier honest held.
    Delivers-unknown c.args.building.now earlier (Skip c.args.name.now c.args.upto) (g.S.Store.standing c.args.store.now)
    (g.S.Store.standing c.last_tick.new.self) tt (sym c.find_panel.ensures ∙ ap option_copied c.in_default.is) c.in_ok-_last.ensures.reads honest held

pub returns-clause-goes : goal.returns-clause-goes
returns-clause-goes g c = (makes g (goal.at.returns-clause-goes g c).After-answer_known_skip).goes

pub returns-clause-changes_once : goal.returns-clause-changes_once
returns-clause-changes_once g c = (makes g (goal.at.returns-clause-changes_once g c).After-answer_known_skip).changes_once

pub returns-clause-imported : goal.returns-clause-imported
returns-clause-imported g c = (makes g (goal.at.returns-clause-imported g c).After-answer_known_skip).imported
