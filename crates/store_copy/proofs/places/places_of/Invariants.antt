use Rattle.std.proofs.Common.{None, take}
use Rattle.std.specs.FinMap.{get}
use Rattle.std.specs.List.{All}
use Rattle.store.specs.Change.{IsPlace, with_each, with_place}
use Rattle.store.specs.Tables.{no_tables}
use Rattle.store_copy.proofs.NameLemmas.{ReadsEach}
use Rattle.store_copy.proofs.places.places_of.Given as goal

-- the points so far
abbrev pub invariant-loop-point : goal.invariant-loop-point
invariant-loop-point g l = record {
  named : ReadsEach (g.S.Store.standing l.initial.store) (g.S.Store.standing l.store)
      (λ q p. get (with_each with_place l.places.items no_tables.places q) p)
      (take l.point-index l.points) (λ tables point p. get (tables.places point) p) None;
  are_places : All IsPlace l.places.items;
}
