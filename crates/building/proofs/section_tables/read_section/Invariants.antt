use Rattle.std.proofs.Common.{◌≡◌, [], IsTrue, drop, length}
use Rattle.std.specs.List.{list_all}
use Rattle.toml.specs.View.{items_view}
use Rattle.building.specs.Section.{each_table, table_in}
use Rattle.building.proofs.section_tables.read_section.Given as goal

abbrev pub invariant-loop-index : goal.invariant-loop-index
invariant-loop-index g l =
    let read = table_in l.known g.T.Named.name_of (g.R.ReadTable.meaning l.reader) in
    (each_table l.section g.T.Named.name_of read [] (items_view l.items)
    ≡ each_table l.section g.T.Named.name_of read l.tables (items_view (drop l.index l.items)))
    × (length l.tables ≡ l.index)
    × IsTrue (list_all (g.R.ReadTable.is_sound l.reader) l.tables)
