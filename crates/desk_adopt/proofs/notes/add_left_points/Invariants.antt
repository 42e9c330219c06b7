use Rattle.std.proofs.Common.{◌≡◌, ◌++◌, None, take}
use Rattle.std.specs.List.{flat_map}
use Rattle.store.specs.Standing.{Reads}
use Rattle.desk_adopt.specs.Notes.{left_point}
use Rattle.desk_adopt.proofs.notes.add_left_points.Given as goal

-- what stays behind so far
abbrev pub invariant-loop-old : goal.invariant-loop-old
invariant-loop-old g l =
    let first = g.S.Store.standing l.initial.store in
    record {
      reads : Reads None first (g.S.Store.standing l.store);
      left : (g.S.Store.standing l.store).is_honest
          → l.left.items ≡ l.initial.left.items
          ++ flat_map (left_point l.building first.content.tables.places l.section) (take l.old-index l.section.stand.items);
    }
