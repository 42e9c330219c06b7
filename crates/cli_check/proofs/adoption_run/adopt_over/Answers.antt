use Rattle.std.proofs.Common.{List, string_bytes, subst}
use Rattle.desk_adopt.specs.declared.renaming.Renaming.{Renaming}
use Rattle.store.specs.Standing.{sound}
use Rattle.store.specs.Tables.{Tables, no_tables}
use Rattle.cli_check.specs.AdoptionRun.{TakesAlong}
use Rattle.cli_check.proofs.adoption_run.adopt_over.Goals as goal

pub returns : goal.returns
returns g c bytes known =
    let building = c.in_ok-building.building in
    let made = (g.T.Store.standing c.take_along-told.new.into).content in
    let text = string_bytes c.in_ok-text.text in
    let held = (g.S.Store.standing c.in_ok-from.from).content.tables in
    record {
      building = building;
      building_is = c.in_ok-building.ensures bytes known;
      renamings = c.in_ok-renamings.renamings.items;
      renamings_are = c.in_ok-renamings.ensures;
      taken = λ tables finds makes honest_left honest_made.
          subst (λ (tables : Tables). TakesAlong building c.in_ok-renamings.renamings.items tables made text)
          (c.in_ok-from.ensures tables finds)
          (subst (λ (renamings : List Renaming). TakesAlong building renamings held made text) c.as_slice.ensures.value
          (c.in_ok-text.ensures.taken honest_left honest_made (c.in_ok-into.ensures (sound no_tables) makes)));
    }
