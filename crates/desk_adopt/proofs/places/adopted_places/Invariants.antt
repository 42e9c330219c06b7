use Rattle.std.proofs.Common.{◌≡◌, ℕ, None, take}
use Rattle.std.specs.FinMap.{empty, get}
use Rattle.std.specs.List.{All}
use Rattle.desk_adopt.specs.Adopted.{kept_value, no_places}
use Rattle.desk_adopt.specs.Renamed.{at_items, former}
use Rattle.points.specs.declared.point.Point.{Point}
use Rattle.store.specs.Change.{IsPlace, with_each, with_place}
use Rattle.store.specs.Standing.{Reads}
use Rattle.points.specs.Texts.{Text}
use Rattle.desk_adopt.proofs.places.adopted_places.Given as goal

-- the points so far
abbrev pub invariant-loop-point : goal.invariant-loop-point
invariant-loop-point g l =
    let first = g.S.Store.standing l.initial.store in
    record {
      reads : Reads None first (g.S.Store.standing l.store);
      kept : (g.S.Store.standing l.store).is_honest → (q : Text) (p : ℕ) → get (with_each with_place l.places.items no_places q) p
          ≡ at_items (λ (it : Point). it.name) (take l.point-index l.building.points)
          (λ name. kept_value l.building name p (get (former l.renamings first.content.tables.places empty name) p)) None q;
      are_places : All IsPlace l.places.items;
    }
