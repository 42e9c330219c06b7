use Rattle.std.proofs.Common.{◌∙◌}
use Rattle.store_sql_rows.proofs.StepLemmas.{one_statement}
use Rattle.store_sql_rows.proofs.ItemLemmas.{imported_added}
use Rattle.store_sql_rows.proofs.putting.put_imported.Goals as goal

pub returns-in-Ok : goal.returns-in-Ok
returns-in-Ok g c =
    record {
      moves = one_statement _ _ _
          c.in-Ok.ensures.moves
          (imported_added c.args.item.now c.as_str-text.result.now (c.as_str-text.ensures.value ∙ c.in_ok-entry.ensures.value)
          c.as_str-name.ensures.is_name c.in_ok-entry.ensures.range);
    }
