use Rattle.std.proofs.Common.{Err, IfOk, Ok, Result}
use Rattle.std.proofs.lemmas.Result.{IfOk-weaker}
use Rattle.cli_base.proofs.reading.read_base.Goals as goal

-- what follows from two facts of an `Ok` holds of it
of_both : {T E : Type 0} {P Q R : T → Type 0} (r : Result T E) → ((x : T) → P x → Q x → R x) → IfOk r P → IfOk r Q → IfOk r R
of_both (Ok x) follows p q = follows x p q
of_both (Err e) follows p q = tt

pub returns-in-Ok-clause-read : goal.returns-in-Ok-clause-read
returns-in-Ok-clause-read g c = of_both c.copied.result (λ base only_read begins. record {
  found = c.in-Ok.found;
  is_found = c.in-Ok.ensures;
  only_read = only_read;
  copied = begins;
}) c.copied.ensures.only_read c.copied.ensures.begins

pub returns-in-Ok-clause-begins : goal.returns-in-Ok-clause-begins
returns-in-Ok-clause-begins g c = IfOk-weaker c.copied.result _ _
    (λ base begins building earlier may honest. begins building earlier (may (Ok c.in-Ok.found) c.in-Ok.ensures) honest)
    c.copied.ensures.begins
