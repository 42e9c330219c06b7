use Rattle.std.proofs.Common.{◌≡◌, ◌∙◌, refl, ap, rules, sym}
use Rattle.store.specs.Change.{with_each}
use Rattle.store.specs.Tables.{Tables}
use Rattle.store.specs.declared.change.KeptRow.{KeptRow}
use Rattle.store.specs.declared.change.RowsBelow.{RowsBelow}
use Rattle.store_sql_rows.specs.Steps.{next_put, row_put, rows_dropped, with_commands}
use Rattle.store_sql_rows.proofs.DropLemmas.{put_then_drop}
use Rattle.store_sql_rows.proofs.StepLemmas.{turns_then}
use Rattle.store_sql.proofs.writing.write_commands.Goals as goal

pub returns-in-Some : goal.returns-in-Some
returns-in-Some g c =
    let same_nexts : c.deref.result.now ≡ c.args.change.now.nexts.items = search rules in
    let change = c.args.change.now in
    let item : KeptRow = c.in-Some.item.now in
    let lower : RowsBelow = record { panel = item.panel; number = c.in-Some.below } in
    let is = c.in-Some.ensures in
    let first = with_each next_put change.nexts.items in
    record {
      moves = turns_then first (λ t. row_put item (rows_dropped lower t)) (with_commands change)
          (λ t. put_then_drop item c.in-Some.below is.low (first t)
          ∙ ap (λ l. with_each rows_dropped l (row_put item (first t))) (sym is.dropped)
          ∙ ap (λ l. with_each rows_dropped change.dropped.items (with_each row_put l (first t))) (sym is.row))
          (rw same_nexts at c.in_ok-put_nexts.ensures.moves)
          c.exchange_row.ensures.moves;
    }

pub returns : goal.returns
returns g c =
    let same_nexts : c.deref.result.now ≡ c.args.change.now.nexts.items = search rules in
    let same_rows : c.deref-2.result.now ≡ c.args.change.now.rows.items = search rules in
    let same_dropped : c.deref-3.result.now ≡ c.args.change.now.dropped.items = search rules in
    let change = c.args.change.now in
    let first = with_each next_put change.nexts.items in
    let second = with_each row_put change.rows.items in
    let both = λ (t : Tables). second (first t) in
    record {
      moves = turns_then both (with_each rows_dropped change.dropped.items) (with_commands change) (λ t. refl)
          (turns_then first second both (λ t. refl) (rw same_nexts at c.in_ok-put_nexts.ensures.moves)
          (rw same_rows at c.in_ok-put_rows.ensures.moves))
          (rw same_dropped at c.drop_all.ensures.moves);
    }
