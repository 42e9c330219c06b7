use Rattle.std.specs.Prelude.{[], ◌∷◌}
use Rattle.sqlite.specs.Held.{state}
use Rattle.store_sql_rows.specs.Schema.{place_tree}
use Rattle.store_sql_rows.specs.Ours.{AreOwn}
use Rattle.store_sql.specs.Asking.{FindsNone, Joins}
use Rattle.store_sql.specs.Own.{TellsOf}
use Rattle.store_sql.proofs.AskLemmas.{asks_as}
use Rattle.store_sql.proofs.TableLemmas.{place_reported}
use Rattle.store_sql.proofs.Texts.{place_apart_askable, place_apart_text, place_numbered_askable, place_numbered_text}
use Rattle.store_sql.proofs.tables.place_is_own.Goals as goal

pub neither_finds-requires-clause-first : goal.neither_finds-requires-clause-first
neither_finds-requires-clause-first g c = place_numbered_askable

pub neither_finds-requires-clause-second : goal.neither_finds-requires-clause-second
neither_finds-requires-clause-second g c = place_apart_askable

pub returns-clause-asks : goal.returns-clause-asks
returns-clause-asks g c =
    asks_as (Joins (FindsNone place_numbered_text) (FindsNone place_apart_text)) (TellsOf place_tree (AreOwn (1 ∷ 2 ∷ []))) place_reported
    (state g.S.Store c.args.connection.now) (state g.S.Store c.neither_finds.new.connection) c.neither_finds.result
    c.neither_finds.ensures.asks
