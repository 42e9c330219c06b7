use Rattle.std.proofs.Common.{◌≡◌, refl, true, if◌then◌else◌, rules, w64}
use Rattle.std.specs.Int.{cast_signed as to_z, cast_unsigned as of_z}
use Rattle.store.specs.Change.{with_each}
use Rattle.store_sql_rows.specs.Steps.{shown_put}
use Rattle.store_sql_rows.proofs.StepLemmas.{fails_after, seen_statements}
use Rattle.store_sql_rows.proofs.TogetherItems.{shown_together}
use Rattle.store_sql_rows.proofs.shown_runs.put_run.Goals as goal

pub returns-in_err-set_between : goal.returns-in_err-set_between
returns-in_err-set_between g c = record {
  moves =
      fails_after c.from_residual-in_err-set_between.result c.from_residual-in_err-set_between.ensures.0 c.in_ok-rows.ensures.moves
      c.in_err-set_between.ensures.moves;
}

pub returns : goal.returns
returns g c =
    let first : to_z w64 (of_z w64 c.args.first) ≡ c.args.first = search rules in
    let last : to_z w64 (of_z w64 c.saturating_add-last.result) ≡ c.saturating_add-last.result = search rules in
    record {
      moves = seen_statements _ _ (λ did. if did then with_each shown_put c.args.items.now else (λ tables. tables)) true (rw (first, last) at c.in_ok-rows.ensures.moves) (rw (first, last) at c.in_ok-set_between.ensures.moves) (λ a b ours_a ours_b finds remade.
          shown_together c.args.value c.args.first c.saturating_add-last.result c.args.items.now c.in_ok-rows.rows.items a b ours_a ours_b
          (rw c.deref.ensures.value at (c.if-not-are_of.ensures refl)) finds remade);
    }
