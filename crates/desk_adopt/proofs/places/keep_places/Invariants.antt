use Rattle.std.proofs.Common.{◌≡◌, ℕ, ◌≤◌, ◌<◌, true, false}
use Rattle.std.specs.FinMap.{get}
use Rattle.std.specs.List.{All}
use Rattle.std.specs.Str.{bytes_eq}
use Rattle.desk_adopt.specs.Adopted.{kept_value, no_places}
use Rattle.store_copy.specs.Named.{or_else}
use Rattle.points.specs.PriorityArray.{HasSixteenPlaces}
use Rattle.store.specs.Change.{IsPlace, with_each, with_place}
use Rattle.points.specs.Texts.{Text}
use Rattle.desk_adopt.proofs.places.keep_places.Given as goal

-- the places so far
abbrev pub invariant-loop-priority : goal.invariant-loop-priority
invariant-loop-priority l = record {
  done : (q : Text) (p : ℕ) → bytes_eq l.point q ≡ true → 1 ≤ p → p < l.priority
      → get (with_each with_place l.places.items no_places q) p
      ≡ or_else (kept_value l.building l.point p (get l.array p)) (get (with_each with_place l.initial.places.items no_places q) p);
  first : (q : Text) → get (with_each with_place l.places.items no_places q) 0 ≡ get (with_each with_place l.initial.places.items no_places q) 0;
  left : (q : Text) (p : ℕ) → l.priority ≤ p
      → get (with_each with_place l.places.items no_places q) p ≡ get (with_each with_place l.initial.places.items no_places q) p;
  elsewhere : (q : Text) (p : ℕ) → bytes_eq l.point q ≡ false
      → get (with_each with_place l.places.items no_places q) p ≡ get (with_each with_place l.initial.places.items no_places q) p;
  sixteen : 1 < l.priority → HasSixteenPlaces l.array;
  are_places : All IsPlace l.initial.places.items → All IsPlace l.places.items;
}
