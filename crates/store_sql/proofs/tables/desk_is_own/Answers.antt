use Rattle.sqlite.specs.Held.{state}
use Rattle.store_sql_rows.specs.Schema.{desk_tree}
use Rattle.store_sql_rows.specs.Ours.{IsOne}
use Rattle.store_sql.specs.Asking.{Joins}
use Rattle.store_sql.specs.Fitting.{AreNumbered, IsAlone}
use Rattle.store_sql.specs.Own.{TellsOf}
use Rattle.store_sql.proofs.AskLemmas.{asks_as}
use Rattle.store_sql.proofs.DeskLemmas.{desk_reported}
use Rattle.store_sql.proofs.tables.desk_is_own.Goals as goal

pub returns-clause-asks : goal.returns-clause-asks
returns-clause-asks g c =
    asks_as (Joins (TellsOf desk_tree IsAlone) (TellsOf desk_tree AreNumbered)) (TellsOf desk_tree IsOne) desk_reported
    (state g.S.Store c.args.connection.now) (state g.S.Store c.desk_is_one.new.connection) c.desk_is_one.result c.desk_is_one.ensures.asks
