use Rattle.std.proofs.Common.{◌∙◌, ap, arith, cond, sym, ◌&&◌, ◌==◌, Option}
use Rattle.std.specs.FinMap.{get}
use Rattle.std.specs.Prelude.{ℤ}
use Rattle.std.specs.Str.{bytes_eq}
use Rattle.store.specs.Change.{with_each, with_place}
use Rattle.store.specs.Tables.{no_tables}
use Rattle.store_copy.specs.Named.{or_else}
use Rattle.store_copy.proofs.FillLemmas.{fill-step, filled-none}
use Rattle.store_copy.proofs.places.add_array.Goals as goal

pub loop-priority-init : goal.loop-priority-init
loop-priority-init c = record {
  added = λ q p. sym (filled-none (bytes_eq c.args.point.now q) (get c.args.array.now) _ p);
  sixteen = λ past. absurd (omega (arith, past));
  are_places = λ all. all;
}

pub loop-priority-preserved : goal.loop-priority-preserved
loop-priority-preserved c =
    let so_far = c.loop-priority.invariant in
    record {
      added = λ q p.
          let old = get (with_each with_place c.loop-priority.places.items no_tables.places q) p in
          fill-step (bytes_eq c.args.point.now q) (get c.args.array.now) c.loop-priority.priority p _ old _ (omega arith) (so_far.added q p)
          (c.in_ok-add_place.ensures.added q p
          ∙ ap (λ (o : Option ℤ). cond (bytes_eq c.args.point.now q && c.loop-priority.priority == p) (or_else o old) old) c.value_at.ensures.value);
      sixteen = λ past. c.value_at.ensures.places;
      are_places = λ all. c.in_ok-add_place.ensures.are_places (so_far.are_places all);
    }
