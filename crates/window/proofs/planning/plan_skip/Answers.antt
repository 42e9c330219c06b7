use Rattle.std.proofs.Common.{[], arith}
use Rattle.std.proofs.lemmas.Result.{IfOk-weaker}
use Rattle.window.specs.declared.verdict.Verdict.TheVariants.{SkipDone}
use Rattle.window.specs.Taken.{Skip, opening, taken}
use Rattle.window.specs.Window.{window}
use Rattle.window.proofs.PlanLemmas.{Plans-drained, Plans-reported, Plans-from_front, Plans-skips, Plans-not_above, Plans-too_far, accepts_skip-within}
use Rattle.window.proofs.VerdictLemmas.{IsRun-skip}
use Rattle.window.proofs.planning.plan_skip.Goals as goal

pub returns-then-upto-view : goal.returns-then-upto-view
returns-then-upto-view c = λ asks shows.
    let t = taken opening asks in
    let front = shows.next in
    Plans-reported t (Skip c.args.upto) c.args.view.now.asked c.unchanged.result _ c.unchanged.ensures
    (Plans-from_front t (Skip c.args.upto) c.args.view.now.asked c.args.view.now.next _ _ _ shows.next
    (Plans-not_above t c.args.upto c.args.view.now.asked (omega arith)))

pub returns-then-upto-view-le-WINDOW : goal.returns-then-upto-view-le-WINDOW
unfolding window
returns-then-upto-view-le-WINDOW c = IfOk-weaker c.drained.result _ _
    (λ plan is asks shows.
    let t = taken opening asks in
    let view = c.args.view.now in
    let front = shows.next in
    let run = IsRun-skip t c.args.upto shows.rows view.run (accepts_skip-within t c.args.upto (omega arith) (omega arith)) shows.run in
    Plans-drained t (Skip c.args.upto) view.asked plan c.args.upto _ [] _ view.run SkipDone is c.new.ensures.items c.as_slice.ensures
    (Plans-skips t c.args.upto view.asked shows.rows view.run shows.keeps (omega arith) (omega arith) run))
    c.drained.ensures

pub returns-else-upto-view-le-WINDOW : goal.returns-else-upto-view-le-WINDOW
unfolding window
returns-else-upto-view-le-WINDOW c = λ asks shows.
    let t = taken opening asks in
    let front = shows.next in
    Plans-reported t (Skip c.args.upto) c.args.view.now.asked c.unchanged-else-upto-view-le-WINDOW.result _
    c.unchanged-else-upto-view-le-WINDOW.ensures
    (Plans-from_front t (Skip c.args.upto) c.args.view.now.asked c.args.view.now.next _ _ _ shows.next
    (Plans-too_far t c.args.upto c.args.view.now.asked (omega arith)))
