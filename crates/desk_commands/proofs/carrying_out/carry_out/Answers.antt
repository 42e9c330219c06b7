-- The commit makes the plan's change, or none.
use Rattle.std.proofs.Common.{rules, to_z, of_z, w64, ◌≡◌, ◌∙◌, None, Result, Ok, Err, IfOk, sym, subst, ap}
use Rattle.std.specs.Result.{result_err}
use Rattle.deliveries.specs.declared.reply.Reply.{Reply}
use Rattle.deliveries.specs.Moved.{answered_rows, first_answer, places_after_each}
use Rattle.deliveries.proofs.ImportedLemmas.{imported_commit, imported_then}
use Rattle.store.specs.Standing.{ChangesOnce, Commits}
use Rattle.store.specs.declared.fault.StoreFault.{StoreFault}
use Rattle.store.proofs.ReadLemmas.{changes_once_commit}
use Rattle.desk_commands.specs.Carried.{Carries, Replies, first_answer_in}
use Rattle.desk_commands.proofs.CarryLemmas.{Carries-committed, Carries-lacking, change-moved, first_answer_in-answered}
use Rattle.desk_commands.proofs.carrying_out.carry_out.Given as given
use Rattle.desk_commands.proofs.carrying_out.carry_out.Goals.{After-commit, After-reply_on}
use Rattle.desk_commands.proofs.carrying_out.carry_out.Goals as goal

-- the answer with which the reply is made
answered : (g : given.Over) (c : After-reply_on g) → (g.S.Store.standing c.act_on_each.new.store).is_honest
    → c.first_answer-answer.result
    ≡ first_answer c.args.building.now (g.S.Store.standing c.args.store.now).content.tables.places c.args.panel.now.name c.args.plan.now.apply
answered g c honest =
    let b = c.args.building.now in
    let p = c.args.panel.now.name in
    let held = (g.S.Store.standing c.args.store.now).content.tables.places in
    c.first_answer-answer.ensures ∙ ap first_answer_in (c.as_slice-2.ensures.value ∙ (c.in_ok-acted.ensures.rows honest
    ∙ ap (λ entries. answered_rows b held p entries) c.as_slice.ensures))
    ∙ first_answer_in-answered b held p c.args.plan.now.apply

-- what the commit makes
carried : (g : given.Over) (c : After-commit g) (result : Result Reply StoreFault)
    → ((g.S.Store.standing c.commit.new.self).is_honest → IfOk result (λ reply.
    Replies c.args.plan.now.verdict c.args.next c.args.plan.now.next c.args.number
    (first_answer c.args.building.now (g.S.Store.standing c.args.store.now).content.tables.places c.args.panel.now.name c.args.plan.now.apply)
    (Ok reply)))
    → Commits c.in_ok-change.change (result_err result) (g.S.Store.standing c.act_on_each.new.store) (g.S.Store.standing c.commit.new.self)
    → Carries c.args.building.now c.args.panel.now.name c.args.plan.now c.args.next c.args.number result
    (g.S.Store.standing c.args.store.now) (g.S.Store.standing c.commit.new.self)
carried g c result replies commits =
    let b = c.args.building.now in
    let p = c.args.panel.now.name in
    let plan = c.args.plan.now in
    let first = g.S.Store.standing c.args.store.now in
    let acted = c.in_ok-acted.ensures in
    Carries-committed b p plan c.args.next c.args.number c.in_ok-change.change result first _ _ replies acted.reads commits
    (λ honest.
    let before = commits.goes.honest honest in
    change-moved b p plan c.in_ok-acted.acted c.in_ok-change.change first.content.tables c.in_ok-change.ensures.change
    (acted.rows before ∙ ap (λ entries. answered_rows b first.content.tables.places p entries) c.as_slice.ensures)
    (acted.places before ∙ ap (λ entries. places_after_each b first.content.tables.places p entries) c.as_slice.ensures))

pub returns-in_err-reply-clause-carries : goal.returns-in_err-reply-clause-carries
returns-in_err-reply-clause-carries g c =
    let is : c.from_residual-in_err-reply.result ≡ Err c.in_err-reply.field-0.0 = search rules in
    let whole : to_z w64 (of_z w64 c.args.number) ≡ c.args.number = search rules in
    subst (λ r. Carries c.args.building.now c.args.panel.now.name c.args.plan.now c.args.next c.args.number r
    (g.S.Store.standing c.args.store.now) (g.S.Store.standing c.act_on_each.new.store))
    (sym is)
    (Carries-lacking c.args.building.now c.args.panel.now.name c.args.plan.now c.args.next c.args.number c.first_answer-answer.result
    c.in_err-reply.field-0.0 (g.S.Store.standing c.args.store.now) (g.S.Store.standing c.act_on_each.new.store)
    (subst (λ z. Replies c.args.plan.now.verdict c.args.next c.args.plan.now.next z c.first_answer-answer.result (Err c.in_err-reply.field-0.0))
    whole c.in_err-reply.ensures)
    (answered g (goal.at.returns-in_err-reply-clause-carries g c).After-reply_on) c.in_ok-acted.ensures.reads)

pub returns-in_err-commit-clause-carries : goal.returns-in_err-commit-clause-carries
returns-in_err-commit-clause-carries g c =
    let is : c.from_residual-in_err-commit.result ≡ Err c.in_err-commit.field-0.0 = search rules in
    subst (λ r. Carries c.args.building.now c.args.panel.now.name c.args.plan.now c.args.next c.args.number r
    (g.S.Store.standing c.args.store.now) (g.S.Store.standing c.commit.new.self))
    (sym is)
    (carried g (goal.at.returns-in_err-commit-clause-carries g c).After-commit (Err c.in_err-commit.field-0.0) (λ honest. tt)
    c.in_err-commit.ensures.commits)

pub returns-in_err-commit-clause-changes_once : goal.returns-in_err-commit-clause-changes_once
returns-in_err-commit-clause-changes_once g c =
    let is : c.from_residual-in_err-commit.result ≡ Err c.in_err-commit.field-0.0 = search rules in
    subst (λ r. ChangesOnce (result_err r) (g.S.Store.standing c.args.store.now) (g.S.Store.standing c.commit.new.self))
    (sym is)
    (changes_once_commit c.in_ok-change.change _ _ (g.S.Store.standing c.act_on_each.new.store) _ c.in_ok-acted.ensures.reads
    c.in_err-commit.ensures.commits)

pub returns-clause-carries : goal.returns-clause-carries
returns-clause-carries g c =
    let plan = c.args.plan.now in
    let whole : to_z w64 (of_z w64 c.args.number) ≡ c.args.number = search rules in
    let replies : Replies plan.verdict c.args.next plan.next c.args.number c.first_answer-answer.result (Ok c.in_ok-reply.reply) =
    subst (λ z. Replies plan.verdict c.args.next plan.next z c.first_answer-answer.result (Ok c.in_ok-reply.reply)) whole
    c.in_ok-reply.ensures in
    carried g (goal.at.returns-clause-carries g c).After-commit (Ok c.in_ok-reply.reply)
    (λ honest. subst (λ answer. Replies plan.verdict c.args.next plan.next c.args.number answer (Ok c.in_ok-reply.reply))
    (answered g (goal.at.returns-clause-carries g c).After-reply_on (c.in_ok-commit.ensures.commits.goes.honest honest)) replies)
    c.in_ok-commit.ensures.commits

pub returns-clause-changes_once : goal.returns-clause-changes_once
returns-clause-changes_once g c =
    changes_once_commit c.in_ok-change.change None _ (g.S.Store.standing c.act_on_each.new.store) _ c.in_ok-acted.ensures.reads
    c.in_ok-commit.ensures.commits

pub returns-clause-imported : goal.returns-clause-imported
returns-clause-imported g c =
    let second = g.S.Store.standing c.act_on_each.new.store in
    let third = g.S.Store.standing c.commit.new.self in
    let commits = c.in_ok-commit.ensures.commits in
    imported_then (g.S.Store.standing c.args.store.now) second third c.in_ok-acted.ensures.reads commits.goes.honest
    (imported_commit c.in_ok-change.change None second third commits c.in_ok-change.ensures.change.imported)
