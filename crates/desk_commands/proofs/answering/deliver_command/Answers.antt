use Rattle.std.proofs.Common.{◌≡◌, ◌∙◌, sym, ap, subst, option_copied, to_z, of_z, w64, rules}
use Rattle.deliveries.specs.declared.delivery.Delivery.TheVariants.{Command}
use Rattle.deliveries.specs.Delivered.{Delivers}
use Rattle.std.specs.Result.{result_err}
use Rattle.desk_commands.specs.Carried.{MakesOnce}
use Rattle.desk_commands.proofs.CarryLemmas.{makes_once-then}
use Rattle.desk_commands.proofs.DeliverLemmas.{Delivers-unknown}
use Rattle.desk_commands.proofs.CommandLemmas.{name_of-named, named-again}
use Rattle.desk_commands.proofs.PlannedLemmas.{next-held}
use Rattle.desk_commands.proofs.answering.deliver_command.Given as given
use Rattle.desk_commands.proofs.answering.deliver_command.Goals.{After-answer_known_command}
use Rattle.desk_commands.proofs.answering.deliver_command.Goals as goal

makes : (g : given.Over) (c : After-answer_known_command g)
    → MakesOnce (result_err c.answer_known_command.result) (g.S.Store.standing c.args.store.now) (g.S.Store.standing c.answer_known_command.new.store)
makes g c =
    makes_once-then _ (g.S.Store.standing c.args.store.now) (g.S.Store.standing c.panel_next.new.self)
    (g.S.Store.standing c.answer_known_command.new.store) c.in_ok-next.ensures.reads c.answer_known_command.ensures.makes

pub answer_known_command-requires-clause-known : goal.answer_known_command-requires-clause-known
answer_known_command-requires-clause-known g c =
    named-again c.args.building.now c.args.name.now c.in-Some.panel.now (sym c.find_panel.ensures ∙ ap option_copied c.in-Some.is)

pub returns-clause-delivers : goal.returns-clause-delivers
returns-clause-delivers g c = λ earlier honest held.
    let b = c.args.building.now in
    let panel = c.in-Some.panel.now in
    let new = g.S.Store.standing c.answer_known_command.new.store in
    let name = name_of-named b c.args.name.now panel (sym c.find_panel.ensures ∙ ap option_copied c.in-Some.is) in
    let before = c.answer_known_command.ensures.makes.goes.honest honest in
    let next_is = next-held b earlier panel.name c.args.name.now c.in_ok-next.next _ (sym name) held (c.in_ok-next.ensures.value before) in
    let whole : to_z w64 (of_z w64 c.args.number) ≡ c.args.number = search rules in
    subst (λ p. Delivers b earlier (Command p c.args.number c.args.content.now) c.answer_known_command.result new) name
    (subst (λ z. Delivers b earlier (Command panel.name z c.args.content.now) c.answer_known_command.result new) whole
    (c.answer_known_command.ensures.delivers earlier next_is honest (c.in_ok-next.ensures.reads.kept before (λ e. cc) ∙ held)))

pub returns-in_default-clause-delivers : goal.returns-in_default-clause-delivers
returns-in_default-clause-delivers g c = λ earlier honest held.
    Delivers-unknown c.args.building.now earlier (Command c.args.name.now c.args.number c.args.content.now) (g.S.Store.standing c.args.store.now)
    (g.S.Store.standing c.last_tick.new.self) tt (sym c.find_panel.ensures ∙ ap option_copied c.in_default.is) c.in_ok-_last.ensures.reads honest held

pub returns-clause-goes : goal.returns-clause-goes
returns-clause-goes g c = (makes g (goal.at.returns-clause-goes g c).After-answer_known_command).goes

pub returns-clause-changes_once : goal.returns-clause-changes_once
returns-clause-changes_once g c = (makes g (goal.at.returns-clause-changes_once g c).After-answer_known_command).changes_once

pub returns-clause-imported : goal.returns-clause-imported
returns-clause-imported g c = (makes g (goal.at.returns-clause-imported g c).After-answer_known_command).imported
