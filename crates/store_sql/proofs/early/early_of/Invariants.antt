use Rattle.std.specs.Prelude.{◌≡◌, ◌++◌, map, drop}
use Rattle.sqlite.specs.Held.{state}
use Rattle.store_sql.specs.Leaving.{HasRead}
use Rattle.store_sql_rows.specs.Stored.{tables_in}
use Rattle.store_sql.specs.Opening.{early_rows}
use Rattle.store_sql.proofs.early.early_of.Given as goal

-- what was put, and what is left to put
abbrev pub invariant-loop-panel : goal.invariant-loop-panel
invariant-loop-panel g l = record {
  reads : HasRead (λ kept. l.dropped.items ++ map (early_rows (tables_in kept).next) (drop l.panel-index l.panels)
      ≡ map (early_rows (tables_in kept).next) l.panels) (state g.S.Store l.initial.connection) (state g.S.Store l.connection);
}
