use Rattle.std.proofs.Common.{None, List, ap, arith, subst, sym, ◌∙◌}
use Rattle.std.specs.FinMap.{get, get-empty}
use Rattle.std.specs.List.{All}
use Rattle.std.specs.Ordering.{nat_cmp}
use Rattle.std.proofs.lemmas.List.Elements.{All-nil}
use Rattle.store.specs.Change.{IsPlace, with_each, with_place}
use Rattle.store.specs.declared.change.PlaceValue.{PlaceValue}
use Rattle.store.specs.Tables.{no_tables}
use Rattle.store_copy.specs.Named.{or_else}
use Rattle.store_copy.proofs.FillLemmas.{or_else-none, or_else-same}
use Rattle.store_copy.proofs.NameLemmas.{each-step}
use Rattle.store_copy.proofs.places.places_of.Goals as goal

pub loop-point-init : goal.loop-point-init
loop-point-init g c = record {
  named = record {
    reads = c.requires.open;
    named = λ honest q p. ap (λ (list : List PlaceValue). get (with_each with_place list no_tables.places q) p) c.new-places.ensures.items
        ∙ get-empty nat_cmp p;
  };
  are_places = subst (All IsPlace) (sym c.new-places.ensures.items) (All-nil IsPlace);
}

pub loop-point-preserved : goal.loop-point-preserved
loop-point-preserved g c = record {
  named = each-step or_else None or_else-same or_else-none (λ tables point p. get (tables.places point) p) (g.S.Store.standing c.args.store.now)
      (g.S.Store.standing c.loop-point.store) (g.S.Store.standing c.array.new.self) _ _ c.args.points.now c.loop-point.point-index
      c.point-item.result c.loop-point.invariant.named c.in_ok-array.ensures.reads (omega (arith, c.loop-point-test.true)) c.point-item.is
      (λ honest. rw (c.in_ok-array.ensures.value honest) at c.in_ok-add_array.ensures.added);
  are_places = c.in_ok-add_array.ensures.are_places c.loop-point.invariant.are_places;
}
