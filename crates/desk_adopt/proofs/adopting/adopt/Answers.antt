use Rattle.std.proofs.Common.{◌≡◌, ◌∙◌, ap, refl, subst, sym}
use Rattle.desk_adopt.specs.Adopted.{AreMoved}
use Rattle.store.proofs.ReadLemmas.{kept-read}
use Rattle.store.specs.Change.{with_change}
use Rattle.store.specs.Standing.{Content}
use Rattle.store.specs.Tables.{Tables, no_tables}
use Rattle.desk_adopt.proofs.adopting.adopt.Goals as goal

pub returns-in-Some-clause-cause : goal.returns-in-Some-clause-cause
returns-in-Some-clause-cause g c honest = (c.in-Ok.sections, c.in-Ok.ensures.sections honest, sym c.in-Some.ensures)

pub returns-in-Ok-commit-clause-adopted : goal.returns-in-Ok-commit-clause-adopted
returns-in-Ok-commit-clause-adopted g c honest_from honest_into empty =
    let building = c.args.building.now in
    let sections = c.in-Ok.sections in
    let change = c.in-Ok-read_change.change in
    let first = g.S.Store.standing c.args.from.now in
    let named = g.S.Store.standing c.sections_of.new.store in
    let new = g.T.Store.standing c.commit.new.self in
    let honest_named = c.in-Ok-read_change.ensures.reads.goes.honest honest_from in
    let same : named.content ≡ first.content = kept-read first named c.in-Ok.ensures.reads honest_named in
    let made = c.in-Ok-commit.ensures.commits.made honest_into refl in
    let tables : new.content.tables ≡ with_change change no_tables =
    made.tables ∙ ap (λ (content : Content). with_change change content.tables) empty in (
      made.is_sound (ap (λ (content : Content). content.is_sound) empty),
      record {
        sections = sections;
        are_sections = c.in-Ok.ensures.sections honest_named;
        none_joined = sym c.in_default.ensures;
        moved = subst (λ (after : Tables). AreMoved building sections first.content.tables after) (sym tables)
            (subst (λ (content : Content). AreMoved building sections content.tables (with_change change no_tables)) same
            (c.in-Ok-read_change.ensures.moved honest_from));
      },
    )
