use Rattle.std.proofs.Common.{◌≡◌, ◌∙◌, sym, ap, None, Some}
use Rattle.std.specs.Result.{result_err}
use Rattle.std.proofs.lemmas.Result.{IfOk-weaker, on_ok_weaker}
use Rattle.deliveries.specs.Machine.{rule_for}
use Rattle.desk_commands.specs.Written.{written}
use Rattle.desk_commands.proofs.CommandLemmas.{answer_to-permitted, answer_to-refused, names_a_place, places_after-refused, commanding-permitted, rule_for-known}
use Rattle.desk_commands.proofs.acting.answer_command.Goals as goal

pub write-requires-clause-permitted : goal.write-requires-clause-permitted
write-requires-clause-permitted g c =
    names_a_place c.args.building.now c.args.panel.now.name c.args.content.now
    (rule_for-known c.args.building.now c.args.panel.now.name c.args.content.now c.args.panel.now c.requires.known
    ∙ (sym (c.permit_for.ensures c.args.building.now.points c.find_point-point.ensures) ∙ ap result_err c.in-Ok.is))

pub returns-in-Ok-clause-answer : goal.returns-in-Ok-clause-answer
returns-in-Ok-clause-answer g c = λ honest.
    let b = c.args.building.now in
    let panel = c.args.panel.now in
    let content = c.args.content.now in
    let none : rule_for b panel.name content ≡ None =
    rule_for-known b panel.name content panel c.requires.known ∙ (sym (c.permit_for.ensures c.args.building.now.points c.find_point-point.ensures) ∙ ap result_err c.in-Ok.is) in
    IfOk-weaker c.write.result _ _ (λ answer is. is ∙ sym (answer_to-permitted b _ panel.name content none)) (c.write.ensures.answer honest)

pub returns-in-Ok-clause-values : goal.returns-in-Ok-clause-values
returns-in-Ok-clause-values g c = λ honest.
    let b = c.args.building.now in
    let panel = c.args.panel.now in
    let content = c.args.content.now in
    let none : rule_for b panel.name content ≡ None =
    rule_for-known b panel.name content panel c.requires.known ∙ (sym (c.permit_for.ensures c.args.building.now.points c.find_point-point.ensures) ∙ ap result_err c.in-Ok.is) in
    let held = (g.S.Store.standing c.args.store.now).content.tables.places in
    on_ok_weaker c.write.result (λ is. is
    ∙ commanding-permitted b panel.name content (written c.args.values.now.items held) none) (c.write.ensures.values honest)

pub returns-in-Err-clause-answer : goal.returns-in-Err-clause-answer
returns-in-Err-clause-answer g c = λ honest.
    let b = c.args.building.now in
    let panel = c.args.panel.now in
    let content = c.args.content.now in
    let refused : rule_for b panel.name content ≡ Some c.in-Err.rule =
    rule_for-known b panel.name content panel c.requires.known ∙ (sym (c.permit_for.ensures c.args.building.now.points c.find_point-point.ensures) ∙ ap result_err c.in-Err.is) in
    sym (answer_to-refused b _ panel.name content c.in-Err.rule refused)

pub returns-in-Err-clause-values : goal.returns-in-Err-clause-values
returns-in-Err-clause-values g c = λ honest.
    let b = c.args.building.now in
    let panel = c.args.panel.now in
    let content = c.args.content.now in
    let refused : rule_for b panel.name content ≡ Some c.in-Err.rule =
    rule_for-known b panel.name content panel c.requires.known ∙ (sym (c.permit_for.ensures c.args.building.now.points c.find_point-point.ensures) ∙ ap result_err c.in-Err.is) in
    sym (places_after-refused b _ panel.name content c.in-Err.rule refused)
