use Rattle.sqlite.specs.Held.{state}
use Rattle.store_sql_rows.specs.Schema.{desk_tree}
use Rattle.store_sql.specs.Asking.{FindsNone}
use Rattle.store_sql.specs.Fitting.{AreNumbered}
use Rattle.store_sql.specs.Own.{TellsOf}
use Rattle.store_sql.proofs.AskLemmas.{asks_as}
use Rattle.store_sql.proofs.OwnLemmas.{numbered_reported}
use Rattle.store_sql.proofs.Texts.{desk_numbered_askable, desk_numbered_is, desk_numbered_text}
use Rattle.store_sql.proofs.tables.desk_is_numbered.Goals as goal

pub finds_none-requires : goal.finds_none-requires
finds_none-requires g c = desk_numbered_askable

pub returns-clause-asks : goal.returns-clause-asks
returns-clause-asks g c =
    asks_as (FindsNone desk_numbered_text) (TellsOf desk_tree AreNumbered)
    (λ none db fit h. numbered_reported desk_numbered_text desk_tree desk_numbered_is none db h)
    (state g.S.Store c.args.connection.now) (state g.S.Store c.finds_none.new.connection) c.finds_none.result c.finds_none.ensures.asks
