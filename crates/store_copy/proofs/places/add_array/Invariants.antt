use Rattle.std.proofs.Common.{◌≡◌, ℕ, ◌<◌}
use Rattle.std.specs.FinMap.{get}
use Rattle.std.specs.List.{All}
use Rattle.std.specs.Str.{bytes_eq}
use Rattle.points.specs.PriorityArray.{HasSixteenPlaces}
use Rattle.points.specs.Texts.{Text}
use Rattle.store.specs.Change.{IsPlace, with_each, with_place}
use Rattle.store.specs.Tables.{no_tables}
use Rattle.store_copy.proofs.FillLemmas.{filled}
use Rattle.store_copy.proofs.places.add_array.Given as goal

-- the places so far
abbrev pub invariant-loop-priority : goal.invariant-loop-priority
invariant-loop-priority l = record {
  added : (q : Text) (p : ℕ) → get (with_each with_place l.places.items no_tables.places q) p
      ≡ filled (bytes_eq l.point q) l.priority (get l.array) (get (with_each with_place l.initial.places.items no_tables.places q) p) p;
  sixteen : 1 < l.priority → HasSixteenPlaces l.array;
  are_places : All IsPlace l.initial.places.items → All IsPlace l.places.items;
}
