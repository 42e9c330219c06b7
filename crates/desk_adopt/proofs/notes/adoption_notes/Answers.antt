use Rattle.std.proofs.Common.{◌≡◌, ◌∙◌, ap}
use Rattle.store.proofs.ReadLemmas.{kept-read}
use Rattle.store.specs.Standing.{Content}
use Rattle.desk_adopt.specs.Notes.{left_of}
use Rattle.desk_adopt.proofs.notes.adoption_notes.Goals as goal

pub returns-clause-noted : goal.returns-clause-noted
returns-clause-noted g c honest =
    let first = g.S.Store.standing c.args.store.now in
    let named = g.S.Store.standing c.sections_of.new.store in
    let honest_named = c.in_ok-left.ensures.reads.goes.honest honest in
    let same : named.content ≡ first.content = kept-read first named c.in_ok-sections.ensures.reads honest_named in
    let sections = c.in_ok-sections.sections in
    record {
      sections = sections;
      are_sections = c.in_ok-sections.ensures.sections honest_named;
      renamed_are = c.in_ok-renamed.ensures;
      left_are = c.in_ok-left.ensures.left honest
          ∙ ap (λ (content : Content). left_of c.args.building.now sections content.tables.places) same;
      unused_are = c.in_ok-unused.ensures;
    }
