use Rattle.std.proofs.Common.{◌≡◌, ◌++◌, None, List, drop}
use Rattle.desk_settling.specs.Calendars.{Tells, with_items}
use Rattle.store.specs.Standing.{Reads}
use Rattle.points.specs.Texts.{Text}
use Rattle.deliveries.specs.Cut.{added_rows}
use Rattle.desk_clock.specs.Knowing.{Knows}
use Rattle.desk_straighten.proofs.new_rows.rows_that_add.Given as goal

-- the rows so far, and those of the rest beside the items so far
abbrev pub invariant-loop-row : goal.invariant-loop-row
invariant-loop-row g l =
    let first = g.S.Store.standing l.initial.store in
    record {
      reads : Reads None first (g.S.Store.standing l.store);
      knows : (g.S.Store.standing l.store).is_honest → Knows l.known l.building first.content.tables.imported l.items.items;
      rows : (g.S.Store.standing l.store).is_honest → (imported : Text → List Text) → Tells first.content.tables.imported imported
          → l.kept.items ++ added_rows l.building (with_items imported l.items.items) (drop l.row-index l.rows)
          ≡ added_rows l.building imported l.rows;
    }
