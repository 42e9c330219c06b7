use Rattle.std.proofs.Common.{◌≡◌, ◌++◌, None, drop}
use Rattle.std.specs.List.{All}
use Rattle.store.specs.Change.{IsKeptRow, IsPlace}
use Rattle.store.specs.Standing.{Reads}
use Rattle.deliveries.specs.Moved.{answered_rows, places_after_each}
use Rattle.desk_commands.specs.Written.{written}
use Rattle.desk_commands.proofs.acting.act_on_each.Given as goal

abbrev pub invariant-loop-entry : goal.invariant-loop-entry
invariant-loop-entry g l =
    let held = (g.S.Store.standing l.fn.store).content.tables.places in
    let left = drop l.entry-index l.entries in
    record {
      reads : Reads None (g.S.Store.standing l.fn.store) (g.S.Store.standing l.store);
      rows : (g.S.Store.standing l.store).is_honest
          → l.acted.rows.items ++ answered_rows l.building (written l.acted.places.items held) l.panel.name left
          ≡ answered_rows l.building held l.panel.name l.entries;
      places : (g.S.Store.standing l.store).is_honest → places_after_each l.building (written l.acted.places.items held) l.panel.name left
          ≡ places_after_each l.building held l.panel.name l.entries;
      kept : All IsKeptRow l.acted.rows.items;
      placed : All IsPlace l.acted.places.items;
    }
