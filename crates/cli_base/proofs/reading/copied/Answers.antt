use Rattle.std.proofs.Common.{◌∙◌, Option, Some, None, ap, subst, sym}
use Rattle.desk_adopt.proofs.OwnLemmas.{own_remembered}
use Rattle.store.specs.Standing.{Content, sound}
use Rattle.store_copy.specs.Remembered.{remembered}
use Rattle.cli_base.specs.Base.{BeginsOn, IsOnlyRead}
use Rattle.cli_base.proofs.reading.copied.Goals as goal

pub returns-in-Ok-clause-only_read : goal.returns-in-Ok-clause-only_read
returns-in-Ok-clause-only_read g c =
    subst (λ (found : Option _). IsOnlyRead g.S.Store.standing found (Some c.copy_tables.new.from)) (sym c.in-Some.is) c.in-Ok.ensures.reads

pub returns-in-Ok-clause-begins : goal.returns-in-Ok-clause-begins
returns-in-Ok-clause-begins g c = λ building earlier begins honest.
    let held = subst (λ (found : Option _). BeginsOn g.S.Store.standing building earlier found) c.in-Some.is begins in
    c.in-Ok.ensures.copied honest tt c.new-memory.ensures.empty
    ∙ ap (λ (content : Content). sound (remembered content.tables)) held
    ∙ ap sound (own_remembered building earlier)

pub returns-clause-only_read : goal.returns-clause-only_read
returns-clause-only_read g c =
    subst (λ (found : Option _). IsOnlyRead g.S.Store.standing found None) (sym c.in-None.is) tt

pub returns-clause-begins : goal.returns-clause-begins
returns-clause-begins g c = λ building earlier begins honest.
    subst (λ (found : Option _). BeginsOn g.S.Store.standing building earlier found) c.in-None.is begins
