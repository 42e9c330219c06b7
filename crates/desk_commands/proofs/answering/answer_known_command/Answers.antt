use Rattle.std.proofs.Common.{◌≡◌, ◌∙◌, sym, ap, subst, to_z, of_z, w64, rules}
use Rattle.deliveries.specs.Accepted.{ask_command, number_upto}
use Rattle.deliveries.specs.declared.delivery.Delivery.TheVariants.{Command}
use Rattle.deliveries.proofs.StepLemmas.{reply-bad_number, tables-bad_number}
use Rattle.store.specs.Standing.{sound, Content}
use Rattle.points.specs.declared.numbered_row.TheConstants.{LAST_NUMBER}
use Rattle.window.specs.Taken as asks
use Rattle.desk_commands.specs.Planned.{IsPlanned}
use Rattle.desk_commands.proofs.CarryLemmas.{makes_once-then}
use Rattle.desk_commands.proofs.PlannedLemmas.{planned-command}
use Rattle.desk_commands.proofs.answering.answer_known_command.Goals as goal

pub returns-in_default-clause-delivers : goal.returns-in_default-clause-delivers
returns-in_default-clause-delivers g c = λ earlier next_is honest held.
    let whole : to_z w64 (of_z w64 c.args.number) ≡ c.args.number = search rules in
    let b = c.args.building.now in
    let panel = c.args.panel.now in
    let d = Command panel.name c.args.number c.args.content.now in
    let none =
    ap (λ n. ask_command n c.args.content.now) (ap (number_upto LAST_NUMBER) (sym whole)
    ∙ (sym c.number_upto.ensures.found ∙ c.in_default.is)) in
    (sym (reply-bad_number b earlier d panel tt c.requires.known none), held ∙ sym (ap sound (tables-bad_number b earlier d tt none)))

pub returns-clause-delivers : goal.returns-clause-delivers
returns-clause-delivers g c = λ earlier next_is honest held.
    let whole : to_z w64 (of_z w64 c.args.number) ≡ c.args.number = search rules in
    let b = c.args.building.now in
    let panel = c.args.panel.now in
    let old = g.S.Store.standing c.args.store.now in
    let content = c.args.content.now in
    let before = c.answer_plan.ensures.makes.goes.honest honest in
    let same = ap (λ (held : Content). held.tables) held in
    let planned = planned-command b earlier panel.name c.args.next old.content.tables same next_is c.in_ok-view.view c.in_ok-plan.plan
    c.args.number c.in-Some.natural content (ap (number_upto LAST_NUMBER) (sym whole)
    ∙ (sym c.number_upto.ensures.found ∙ c.in-Some.is)) (c.in_ok-view.ensures.views before) c.in_ok-plan.ensures in
    c.answer_plan.ensures.delivers earlier (Command panel.name c.args.number content) (asks.Command c.in-Some.natural content)
    (subst (λ z. IsPlanned b earlier (Command panel.name c.args.number content) (asks.Command c.in-Some.natural content) panel.name
    c.args.next z c.in_ok-plan.plan) (sym whole) planned) honest
    (c.in_ok-view.ensures.reads.kept before (λ e. cc) ∙ held)

pub returns-clause-makes : goal.returns-clause-makes
returns-clause-makes g c =
    makes_once-then _ (g.S.Store.standing c.args.store.now) (g.S.Store.standing c.view_for_command.new.store)
    (g.S.Store.standing c.answer_plan.new.store) c.in_ok-view.ensures.reads c.answer_plan.ensures.makes
