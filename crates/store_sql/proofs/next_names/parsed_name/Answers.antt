use Rattle.std.proofs.Common.{◌≡◌, rules, slice_get, None, Some}
use Rattle.store_sql.proofs.ParsedLemmas.{if_err}
use Rattle.store_sql.proofs.NameLemmas.{name_bad, name_none, name_some}
use Rattle.store_sql.proofs.NumberLemmas.{first_none, first_some}
use Rattle.store_sql.proofs.next_names.parsed_name.Goals as goal

pub returns-in-None-clause-value : goal.returns-in-None-clause-value
returns-in-None-clause-value c table found =
    let none : slice_get c.args.rows.items 0 ≡ None = search rules in
    name_none c.args.from.now table c.args.rows.items found (first_none c.args.rows.items none)

pub returns-clause-value : goal.returns-clause-value
returns-clause-value c table found =
    let some : slice_get c.args.rows.items 0 ≡ Some c.in-Some.row.now = search rules in
    name_some c.args.from.now table c.args.rows.items found c.in-Some.row.now _ _
    (first_some c.args.rows.items c.in-Some.row.now some) c.in_ok-name_at-in-Some.ensures.value

pub returns-in_err-name_at-in-Some-clause-bad : goal.returns-in_err-name_at-in-Some-clause-bad
returns-in_err-name_at-in-Some-clause-bad c table found =
    let some : slice_get c.args.rows.items 0 ≡ Some c.in-Some.row.now = search rules in
    if_err c.from_residual.result (name_bad c.args.from.now table c.args.rows.items found c.in-Some.row.now _
    (first_some c.args.rows.items c.in-Some.row.now some) c.in_err-name_at-in-Some.ensures.bad)
