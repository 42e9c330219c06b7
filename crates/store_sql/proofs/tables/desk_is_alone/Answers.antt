use Rattle.std.proofs.Common.{◌∙◌, rules}
use Rattle.sqlite.specs.Held.{state}
use Rattle.store_sql_rows.specs.Schema.{desk_tree}
use Rattle.store_sql_rows.proofs.DeskTexts.{find_text}
use Rattle.store_sql.specs.Fitting.{IsAlone}
use Rattle.store_sql.specs.Own.{TellsOf}
use Rattle.store_sql.proofs.AskLemmas.{look_failed, looked}
use Rattle.store_sql.proofs.DeskLemmas.{find_askable, alone_reported}
use Rattle.store_sql.proofs.tables.desk_is_alone.Goals as goal

pub returns-in_err-look-clause-asks : goal.returns-in_err-look-clause-asks
returns-in_err-look-clause-asks g c =
    look_failed (TellsOf desk_tree IsAlone) find_text find_askable (state g.S.Store c.args.connection.now)
    (state g.S.Store c.look.new.connection) c.from_residual.result c.in_err-look.field-0.0 (search rules)
    c.in_err-look.ensures.refused c.in_err-look.ensures.rests c.in_err-look.ensures.survives

pub returns-clause-asks : goal.returns-clause-asks
returns-clause-asks g c =
    looked (TellsOf desk_tree IsAlone) find_text find_askable (state g.S.Store c.args.connection.now)
    (state g.S.Store c.look.new.connection) _ c.in_ok-look.field-0.items
    (alone_reported c.in_ok-look.field-0.items c.len.result (c.len.ensures ∙ c.in_ok-look.field-0.ok.0)
    (state g.S.Store c.args.connection.now).now)
    c.in_ok-look.ensures.shown c.in_ok-look.ensures.same c.in_ok-look.ensures.rests c.in_ok-look.ensures.survives
