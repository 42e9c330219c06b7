use Rattle.std.proofs.Common.{◌≡◌, Ok, IfSome, ◌∙◌, ap, subst}
use Rattle.store.specs.Standing.{Content}
use Rattle.cli_record.proofs.record_run.opened.Goals as goal

pub returns-in-Ok-clause-found : goal.returns-in-Ok-clause-found
returns-in-Ok-clause-found g c = λ tables finds honest.
    let here = subst (λ s. (g.S.Store.standing s).is_honest) c.into_parts.ensures.store honest in
    ap (λ s. (g.S.Store.standing s).content.tables) c.into_parts.ensures.store
    ∙ ap (λ (k : Content). k.tables) (c.in-Ok.ensures.opened.kept here (λ e. absurd (let is = e in cc)))
    ∙ subst (λ found. IfSome found (λ store. (g.S.Store.standing store).content.tables ≡ tables)) c.in-Ok-Some.field-0-is
    (finds (Ok c.in-Ok-Some.field-0) c.in-Ok-Some.ensures)
