use Rattle.std.proofs.Common.{◌≡◌, rules, slice_get, None, Some, ap, arith, length}
use Rattle.store_sql.proofs.NameLemmas.{numbers_none, numbers_some}
use Rattle.store_sql.proofs.NumberLemmas.{first_none, first_some}
use Rattle.store_sql.proofs.names.parsed_numbers.Goals as goal

pub returns-in-None-clause-value : goal.returns-in-None-clause-value
returns-in-None-clause-value c kept found =
    let none : slice_get c.args.rows.items 0 ≡ None = search rules in
    numbers_none c.args.panel.now kept c.args.rows.items found (first_none c.args.rows.items none)

pub returns-clause-bad : goal.returns-clause-bad
returns-clause-bad c kept found =
    let some : slice_get c.args.rows.items 0 ≡ Some c.in-Some.field-0.now = search rules in
    numbers_some c.args.panel.now kept c.args.rows.items found
    (λ none. let whole = first_some c.args.rows.items c.in-Some.field-0.now some in omega (arith, ap length whole, none))
