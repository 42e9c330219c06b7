use Rattle.store.specs.Change.{with_change}
use Rattle.store_sql_rows.specs.Steps.{with_commands, with_values}
use Rattle.store_sql_rows.proofs.StepLemmas.{turns_then}
use Rattle.store_sql.proofs.WholeLemmas.{whole}
use Rattle.store_sql.proofs.writing.write.Goals as goal

pub returns : goal.returns
returns g c =
    let change = c.args.change.now in
    record {
      moves = turns_then (with_commands change) (with_values change) (with_change change) (whole change)
          c.in_ok-write_commands.ensures.moves c.write_values.ensures.moves;
    }
