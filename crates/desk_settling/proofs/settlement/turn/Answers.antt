use Rattle.std.proofs.Common.{◌∙◌, sym}
use Rattle.desk_settling.proofs.TurnLemmas.{turn_due, turn_none, turn_quiet, turn_same}
use Rattle.desk_settling.proofs.KeptLemmas.{is_none_from, on_ok_three}
use Rattle.desk_settling.proofs.settlement.turn.Goals as goal

pub returns-then-eq-clause-turns : goal.returns-then-eq-clause-turns
returns-then-eq-clause-turns c = λ now is.
    turn_same now c.args.shown c.args.schedule.now c.args.written.now c.in-Some.value (sym c.in-Some.is ∙ is) (sym c.if-eq.ensures)

pub returns-in-Some-clause-turns : goal.returns-in-Some-clause-turns
returns-in-Some-clause-turns c = λ now is.
    on_ok_three c.put_due.result _ _ _ c.put_due.ensures.put c.put_due.ensures.shown
    (turn_due now c.args.shown c.args.schedule.now c.args.written.now c.put_due.new.written c.in-Some.value (sym c.in-Some.is ∙ is)
    (sym c.if-eq.ensures) c.put_due.ensures.cleared)

pub returns-in-Some-shown-clause-turns : goal.returns-in-Some-shown-clause-turns
returns-in-Some-shown-clause-turns c = λ now is.
    on_ok_three c.fall_quiet.result _ _ _ c.fall_quiet.ensures.cleared c.fall_quiet.ensures.shown
    (turn_quiet now c.args.shown c.args.schedule.now c.args.written.now c.fall_quiet.new.written c.in-Some-shown.field-0
    (sym (is_none_from c.args.current c.in_default.not-Some) ∙ is) c.in-Some-shown.is c.fall_quiet.ensures.put)

pub returns-in-None-clause-turns : goal.returns-in-None-clause-turns
returns-in-None-clause-turns c = λ now is.
    turn_none now c.args.shown c.args.schedule.now c.args.written.now
    (sym (is_none_from c.args.current c.in_default.not-Some) ∙ is) c.in-None.is
