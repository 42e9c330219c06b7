use Rattle.std.proofs.Common.{◌≡◌, ◌++◌, None, take}
use Rattle.std.specs.List.{flat_map}
use Rattle.store.specs.Standing.{Reads}
use Rattle.desk_adopt.specs.Findings.{of_point}
use Rattle.desk_adopt.proofs.place_findings.add_points.Given as goal

-- what was found of the points so far
abbrev pub invariant-loop-name : goal.invariant-loop-name
invariant-loop-name g l =
    let first = g.S.Store.standing l.initial.store in
    record {
      reads : Reads None first (g.S.Store.standing l.store);
      found : (g.S.Store.standing l.store).is_honest
          → l.findings.items ≡ l.initial.findings.items
          ++ flat_map (of_point l.building first.content.tables.places) (take l.name-index l.names);
    }
