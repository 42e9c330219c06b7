use Rattle.std.proofs.Common.{◌≡◌, rules, w64}
use Rattle.std.specs.Int.{cast_signed as to_z, cast_unsigned as of_z}
use Rattle.store_sql_rows.proofs.StepLemmas.{one_statement, two_statements}
use Rattle.store_sql_rows.proofs.ItemLemmas.{place_added, place_set}
use Rattle.store_sql_rows.proofs.place_puts.set.Goals as goal

pub returns-then-branch-eq0 : goal.returns-then-branch-eq0
returns-then-branch-eq0 g c =
    let whole : to_z w64 (of_z w64 c.args.value) ≡ c.args.value = search rules in
    record {
      moves = two_statements _ _ _ _
          (rw whole at c.in_ok-set.ensures.moves) (rw whole at c.in_ok-add.ensures.moves)
          (place_added c.args.item.now c.args.value c.requires.value c.as_str-name.ensures.is_name c.requires.place
          c.in_ok-set.field-0 c.if-branch-eq0.true);
    }

pub returns : goal.returns
returns g c =
    let whole : to_z w64 (of_z w64 c.args.value) ≡ c.args.value = search rules in
    record {
      moves = one_statement _ _ _
          (rw whole at c.in_ok-set.ensures.moves)
          (place_set c.args.item.now c.args.value c.requires.value c.as_str-name.ensures.is_name c.requires.place
          c.in_ok-set.field-0 c.if-branch-eq0.false);
    }
