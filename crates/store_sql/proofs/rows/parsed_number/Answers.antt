use Rattle.std.proofs.Common.{◌≡◌, rules, slice_get, IfSome, None, Some, subst, sym}
use Rattle.sqlite_value.specs.Order.{column}
use Rattle.store.specs.Change.{IsNumber}
use Rattle.store_sql.specs.Stepping.{IsNextNumber}
use Rattle.store_sql.proofs.NumberLemmas.{first_none, first_some, number_is, reported_none, reported_ok}
use Rattle.store_sql.proofs.rows.parsed_number.Goals as goal

pub returns-in-None-clause-value : goal.returns-in-None-clause-value
returns-in-None-clause-value c kept found =
    let none : slice_get c.args.rows.items 0 ≡ None = search rules in
    reported_none c.args.panel.now c.args.from kept c.args.rows.items c.as_str-name.ensures.is_name found (first_none c.args.rows.items none)

pub returns-clause-is : goal.returns-clause-is
returns-clause-is c =
    subst (λ it. IfSome it IsNumber) (sym c.ok.ensures.value)
    (number_is c.count_at.result (column c.in-Some.row.now 0) c.count_at.ensures.value)

pub returns-clause-value : goal.returns-clause-value
returns-clause-value c kept found =
    let some : slice_get c.args.rows.items 0 ≡ Some c.in-Some.row.now = search rules in
    subst (IsNextNumber kept c.args.panel.now c.args.from) (sym c.ok.ensures.value)
    (reported_ok c.args.panel.now c.args.from kept c.args.rows.items c.as_str-name.ensures.is_name found c.count_at.result
    c.in-Some.row.now _ c.requires (first_some c.args.rows.items c.in-Some.row.now some) c.count_at.ensures.value
    c.count_at.ensures.bad)
