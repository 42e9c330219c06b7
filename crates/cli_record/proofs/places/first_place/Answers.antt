use Rattle.std.proofs.Common.{◌∙◌, ◌++◌, ap, List}
use Rattle.std.specs.List.{flat_map, slice_get}
use Rattle.points.specs.declared.point.Point.{Point}
use Rattle.cli_record.specs.declared.difference.Difference.{Difference}
use Rattle.cli_record.specs.Differences.{of_point}
use Rattle.cli_record.proofs.ComparesLemmas.{compares-as}
use Rattle.cli_record.proofs.places.first_place.Goals as goal

pub returns : goal.returns
returns g c =
    let held = (g.S.Store.standing c.args.store.now).content.tables in
    let recorded = (g.T.Store.standing c.args.other.now).content.tables in
    compares-as c.in_ok-compare_points.ensures (λ is. c.copied.ensures ∙ c.first.ensures.value
    ∙ ap (λ (ds : List Difference). slice_get ds 0) (c.deref.ensures.value ∙ is
    ∙ ap (λ (old : List Difference). old ++ flat_map (of_point held recorded) c.points.result.now) c.new-found.ensures.items
    ∙ ap (λ (ps : List Point). flat_map (of_point held recorded) ps) c.points.ensures))
