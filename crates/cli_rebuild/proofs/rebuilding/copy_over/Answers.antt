use Rattle.std.proofs.Common.{◌∙◌, ap}
use Rattle.desk_adopt.proofs.OwnLemmas.{own_remembered}
use Rattle.store.proofs.ReadLemmas.{kept-read}
use Rattle.store.specs.Standing.{Content, sound}
use Rattle.store_copy.specs.Remembered.{remembered}
use Rattle.cli_rebuild.proofs.rebuilding.copy_over.Goals as goal

pub returns-clause-copied : goal.returns-clause-copied
returns-clause-copied g c = λ deliveries honest_from honest_into empty holds.
    let made = g.T.Store.standing c.copy_tables.new.into in
    let surveyed = g.T.Store.standing c.survey_tables.new.store in
    let honest_made = c.in-Ok-survey_tables.ensures.reads.goes.honest honest_into in
    kept-read made surveyed c.in-Ok-survey_tables.ensures.reads honest_into
    ∙ c.in-Ok.ensures.copied honest_from honest_made empty
    ∙ ap (λ (content : Content). sound (remembered content.tables)) holds
    ∙ ap sound (own_remembered c.args.building.now deliveries)
