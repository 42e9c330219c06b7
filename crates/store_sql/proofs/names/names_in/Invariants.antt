use Rattle.std.specs.Prelude.{string_bytes}
use Rattle.sqlite.specs.Held.{state}
use Rattle.store_sql.specs.Leaving.{HasRead}
use Rattle.store_sql_rows.specs.Stored.{tables_in}
use Rattle.points.specs.Texts.{Text}
use Rattle.store_sql.specs.Naming.{IsGood, IsKept, StandsIn}
use Rattle.store_sql.specs.Texts.{AreTextsBefore, IsBefore}
use Rattle.store_sql.proofs.names.names_in.Given as goal

-- the names before a text, under each of which what is kept is good
abbrev pub invariant-loop : goal.invariant-loop
invariant-loop g l = record {
  reads : HasRead (λ kept. AreTextsBefore (StandsIn l.list (tables_in kept)) (string_bytes l.from) l.names.items
      × ((name : Text) → IsKept l.list kept name → IsBefore name (string_bytes l.from) → IsGood l.list kept name))
      (state g.S.Store l.initial.connection) (state g.S.Store l.connection);
}
