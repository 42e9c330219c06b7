use Rattle.std.proofs.Common.{◌∙◌, ◌+◌, [], ◌∷◌, sym, Some}
use Rattle.std.proofs.lemmas.Result.{IfOk-weaker}
use Rattle.window.specs.Taken.{Command, opening, taken}
use Rattle.window.proofs.PlanLemmas.{first_pushed, Plans-drained, Plans-reported, Plans-from_front, Plans-applies, Plans-parked, Plans-refused}
use Rattle.window.proofs.VerdictLemmas.{IsRun-command, at_front-applies, waits-parked, refused-otherwise}
use Rattle.window.proofs.planning.plan_command.Goals as goal

pub returns-in_ok-push-in-Applies : goal.returns-in_ok-push-in-Applies
returns-in_ok-push-in-Applies c = IfOk-weaker c.drained.result _ _
    (λ plan is asks shows.
    let t = taken opening asks in
    let view = c.args.view.now in
    let number = c.args.number in
    let content = c.args.content.now in
    let said = c.verdict_on-verdict.ensures t shows in
    let at_front = at_front-applies t number content view.asked (sym said ∙ c.in-Applies.is) in
    let run = IsRun-command t number content shows.rows view.run at_front shows.run in
    Plans-drained t (Command number content) view.asked plan (number + 1) _ (record { number = number; content = content } ∷ []) _
    view.run _ is
    (first_pushed c.new-contents.result.items _ c.numbered.result _
    c.in_ok-push-in-Applies.ensures.items c.new-contents.ensures.items c.numbered.ensures)
    c.as_slice.ensures
    (Plans-applies t number content view.asked shows.rows view.run _ shows.keeps at_front run said))
    c.drained.ensures

pub returns-in-Parked : goal.returns-in-Parked
returns-in-Parked c = λ asks shows.
    let t = taken opening asks in
    let view = c.args.view.now in
    let number = c.args.number in
    let content = c.args.content.now in
    let said = c.verdict_on-verdict.ensures t shows in
    let waits = waits-parked t number content shows.rows view.asked shows.keeps shows.asked (sym said ∙ c.in-Parked.is) in
    Plans-reported t (Command number content) view.asked _ _
    (λ i. record {
      next = shows.next i;
      apply = (c.from_vec.ensures ∙ c.new.ensures.items) i;
      park = Some (c.numbered-in-Parked.ensures i);
      verdict = c.verdict_on-verdict.result;
    })
    (Plans-parked t number content view.asked c.verdict_on-verdict.result waits.accepted waits.past said)

pub returns-in_default : goal.returns-in_default
returns-in_default c = λ asks shows.
    let t = taken opening asks in
    let view = c.args.view.now in
    let number = c.args.number in
    let content = c.args.content.now in
    let said = c.verdict_on-verdict.ensures t shows in
    let refused = refused-otherwise t number content shows.rows view.asked shows.keeps shows.asked
    (λ e. c.in_default.not-Applies (said ∙ e)) (λ e. c.in_default.not-Parked (said ∙ e)) in
    Plans-reported t (Command number content) view.asked c.unchanged.result _ c.unchanged.ensures
    (Plans-from_front t (Command number content) view.asked view.next _ _ _ shows.next
    (Plans-refused t number content view.asked c.verdict_on-verdict.result refused said))
