use Rattle.std.specs.Prelude.{[], ◌∷◌}
use Rattle.sqlite.specs.Held.{state}
use Rattle.store_sql_rows.specs.Schema.{command_tree}
use Rattle.store_sql_rows.specs.Ours.{AreOwn}
use Rattle.store_sql.specs.Asking.{FindsNone, Joins}
use Rattle.store_sql.specs.Own.{TellsOf}
use Rattle.store_sql.proofs.AskLemmas.{asks_as}
use Rattle.store_sql.proofs.TableLemmas.{command_reported}
use Rattle.store_sql.proofs.Texts.{command_apart_askable, command_apart_text, command_numbered_askable, command_numbered_text}
use Rattle.store_sql.proofs.tables.command_is_own.Goals as goal

pub neither_finds-requires-clause-first : goal.neither_finds-requires-clause-first
neither_finds-requires-clause-first g c = command_numbered_askable

pub neither_finds-requires-clause-second : goal.neither_finds-requires-clause-second
neither_finds-requires-clause-second g c = command_apart_askable

pub returns-clause-asks : goal.returns-clause-asks
returns-clause-asks g c =
    asks_as (Joins (FindsNone command_numbered_text) (FindsNone command_apart_text)) (TellsOf command_tree (AreOwn (1 ∷ 2 ∷ [])))
    command_reported
    (state g.S.Store c.args.connection.now) (state g.S.Store c.neither_finds.new.connection) c.neither_finds.result
    c.neither_finds.ensures.asks
