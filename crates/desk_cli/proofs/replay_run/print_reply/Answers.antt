use Rattle.std.proofs.Common.{OnOk, Ok, Err, Result, rules, string_bytes}
use Rattle.desk_cli.proofs.StopLemmas.{Prints-answered, first-none, first-replied}
use Rattle.desk_cli.proofs.replay_run.print_reply.Goals as goal

pub returns-then-is_empty-clause-no_more : goal.returns-then-is_empty-clause-no_more
returns-then-is_empty-clause-no_more g c = λ E honest holds. first-none _ E _ _

-- what follows from what holds at an `Ok` holds there
at_ok : {T E : Type 0} (r : Result T E) (P Q : Type 0) → (P → Q) → OnOk r P → OnOk r Q
at_ok {T} {E} (Ok x) P Q f p = f p
at_ok {T} {E} (Err e) P Q f p = tt

pub returns-in-Ok-clause-prints : goal.returns-in-Ok-clause-prints
returns-in-Ok-clause-prints g c =
    at_ok c.print_text.result _ _ (λ printed E honest holds. Prints-answered _ E _ _ (string_bytes c.answer_line.new.text) _ _ _ (search rules)
    (c.in-Ok.ensures.answers E honest holds) (search rules) printed) c.print_text.ensures.whole

pub returns-in-Ok-clause-no_more : goal.returns-in-Ok-clause-no_more
returns-in-Ok-clause-no_more g c =
    λ E honest holds. first-replied _ E _ _ (string_bytes c.answer_line.new.text) _ _ _ (search rules) (c.in-Ok.ensures.answers E honest holds)
    (search rules) c.print_text.ensures.no_more

pub returns-in-Err-NotDelivery-clause-no_more : goal.returns-in-Err-NotDelivery-clause-no_more
returns-in-Err-NotDelivery-clause-no_more g c = λ E honest holds. first-none _ E _ _

pub returns-in-Err-NotDone-clause-no_more : goal.returns-in-Err-NotDone-clause-no_more
returns-in-Err-NotDone-clause-no_more g c = λ E honest holds. first-none _ E _ _
