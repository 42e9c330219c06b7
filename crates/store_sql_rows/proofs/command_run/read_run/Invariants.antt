use Rattle.std.proofs.Common.{◌≡◌, ◌-◌}
use Rattle.sqlite.specs.Held.{state}
use Rattle.sqlite.specs.Values.{bound}
use Rattle.store_sql_rows.specs.Looking.{last_shown}
use Rattle.store_sql_rows.proofs.StepwiseLemmas.{Given, Stays}
use Rattle.store_sql_rows.proofs.command_run.read_run.Given as goal

-- the rows so far are the first of the answer
abbrev pub invariant-rows : goal.invariant-rows
invariant-rows g l =
    let old = state g.S.Store l.fn.connection in
    record {
      same_reference : l.rows.conn.ghost_name ≡ l.initial.rows.conn.ghost_name;
      stays : Stays old (state g.S.Store l.rows.conn.now);
      given : Given g.S.Store l.sql (bound l.params) old l.rows.conn.now l.run.items;
      last : l.last ≡ last_shown (l.from - 1) l.run.items;
    }
