use Rattle.std.proofs.Common.{rules}
use Rattle.sqlite.specs.Held.{state}
use Rattle.store_sql.specs.Asking.{FindsNone}
use Rattle.store_sql.proofs.AskLemmas.{look_failed, looked}
use Rattle.store_sql.proofs.EmptyLemmas.{empty_reported}
use Rattle.store_sql.proofs.asking.finds_none.Goals as goal

pub returns-in_err-look-clause-asks : goal.returns-in_err-look-clause-asks
returns-in_err-look-clause-asks g c =
    look_failed (FindsNone c.args.sql.now) c.args.sql.now c.requires (state g.S.Store c.args.connection.now)
    (state g.S.Store c.look.new.connection) c.from_residual.result c.in_err-look.field-0.0 (search rules)
    c.in_err-look.ensures.refused c.in_err-look.ensures.rests c.in_err-look.ensures.survives

pub returns-clause-asks : goal.returns-clause-asks
returns-clause-asks g c =
    looked (FindsNone c.args.sql.now) c.args.sql.now c.requires (state g.S.Store c.args.connection.now)
    (state g.S.Store c.look.new.connection) c.is_empty.result c.in_ok-look.field-0.items
    (λ compiled is read. record {
      compiled = compiled;
      is = is;
      rows = c.in_ok-look.field-0.items;
      read = read;
      reported = empty_reported c.in_ok-look.field-0.items _ c.is_empty.result c.in_ok-look.field-0.ok.0 c.is_empty.ensures;
    })
    c.in_ok-look.ensures.shown c.in_ok-look.ensures.same c.in_ok-look.ensures.rests c.in_ok-look.ensures.survives
