use Rattle.std.proofs.Common.{inl, inr, ⊎_elim}
use Rattle.cli_common.proofs.PrintedLemmas.{Appends-Keeps, start-Keeps}
use Rattle.cli_days.proofs.ListedLemmas.{Keeps-Keeps, at_ok}
use Rattle.cli_days.proofs.days_run.days.Goals as goal

pub returns-clause-done : goal.returns-clause-done
returns-clause-done g c = λ done bytes file.
    let lists = at_ok c.days_over-listed.result _ (c.end_of.ensures.done done) c.days_over-listed.ensures.done bytes file in
    (lists.0, Appends-Keeps _ _ _ _ lists.1 c.end_of.ensures.out)

pub returns-clause-no_more : goal.returns-clause-no_more
returns-clause-no_more g c = λ bytes file. ⊎_elim
    (λ nothing. inl (Keeps-Keeps _ _ _ nothing c.end_of.ensures.out))
    (λ some. inr (some.0, start-Keeps _ _ _ _ some.1 c.end_of.ensures.out))
    (c.days_over-listed.ensures.no_more bytes file)
