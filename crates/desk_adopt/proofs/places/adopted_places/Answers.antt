use Rattle.std.proofs.Common.{◌∙◌, ℕ, ◌<◌, cond, None, List, ap, arith, length, subst, sym}
use Rattle.std.specs.FinMap.{empty, get, get-empty}
use Rattle.std.specs.List.{All}
use Rattle.std.specs.Ordering.{nat_cmp}
use Rattle.std.proofs.lemmas.List.Elements.{All-nil}
use Rattle.std.specs.Str.{bytes_eq}
use Rattle.desk_adopt.specs.Adopted.{kept_value, no_places}
use Rattle.store_copy.specs.Named.{or_else}
use Rattle.desk_adopt.specs.Renamed.{former}
use Rattle.points.specs.declared.point.Point.{Point}
use Rattle.store.specs.Change.{IsPlace, with_each, with_place}
use Rattle.store.specs.declared.change.PlaceValue.{PlaceValue}
use Rattle.store.specs.Standing.{Content}
use Rattle.points.specs.Texts.{Text}
use Rattle.store.proofs.ReadLemmas.{Reads-then, kept-read}
use Rattle.desk_adopt.proofs.ItemLemmas.{items-step, or_else-here, same_name}
use Rattle.desk_adopt.proofs.places.adopted_places.Goals as goal

pub loop-point-init : goal.loop-point-init
loop-point-init g c = record {
  reads = c.requires.open;
  kept = λ honest q p. ap (λ (list : List PlaceValue). get (with_each with_place list no_places q) p) c.new-places.ensures.items ∙ get-empty nat_cmp p;
  are_places = subst (All IsPlace) (sym c.new-places.ensures.items) (All-nil IsPlace);
}

pub loop-point-preserved : goal.loop-point-preserved
loop-point-preserved g c =
    let so_far = c.loop-point.invariant in
    let first = g.S.Store.standing c.args.store.now in
    let old = g.S.Store.standing c.loop-point.store in
    let new = g.S.Store.standing c.adopt_point.new.store in
    let point = c.point-item.result in
    let had = λ (content : Content) (name : Text) (p : ℕ). kept_value c.args.building.now name p
    (get (former c.args.renamings.now content.tables.places empty name) p) in
    let before_it = λ (q : Text) (p : ℕ). get (with_each with_place c.loop-point.places.items no_places q) p in
    record {
      reads = Reads-then None first old new so_far.reads c.in_ok-adopt_point.ensures.reads;
      kept = λ honest q p.
          let before = c.in_ok-adopt_point.ensures.reads.goes.honest honest in
          let same_content = kept-read first old so_far.reads before in
          let put = λ (r : Text). c.in_ok-adopt_point.ensures.kept honest r p
          ∙ ap (λ (content : Content). cond (bytes_eq point.name r) (or_else (had content point.name p) (before_it r p)) (before_it r p)) same_content in
          let within : c.loop-point.point-index < length c.args.building.now.points = omega (arith, rw c.points-point-items.ensures at c.loop-point-test.true) in
          items-step (λ (it : Point). it.name) c.args.building.now.points (λ name. had first.content name p) None c.loop-point.point-index point
          (λ r. before_it r p) (λ r. get (with_each with_place c.adopt_point.new.places.items no_places r) p) within (rw c.points-point-items.ensures at c.point-item.is)
          (λ r. so_far.kept before r p)
          (λ r other. put r ∙ ap (λ b. cond b (or_else (had first.content point.name p) (before_it r p)) (before_it r p)) other)
          (λ r same was. put r ∙ ap (λ b. cond b (or_else (had first.content point.name p) (before_it r p)) (before_it r p)) same
          ∙ ap (λ name. or_else (had first.content name p) (before_it r p)) (same_name point.name r same)
          ∙ or_else-here (had first.content r p) (before_it r p) was)
          q;
      are_places = c.in_ok-adopt_point.ensures.are_places so_far.are_places;
    }
