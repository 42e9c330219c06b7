use Rattle.std.proofs.Common.{◌≡◌, rules, slice_get, None, Some}
use Rattle.store_sql.proofs.ParsedLemmas.{if_err}
use Rattle.store_sql.proofs.NumberLemmas.{first_none, first_some}
use Rattle.store_sql.proofs.EntryLemmas.{entry_bad, entry_none, entry_some}
use Rattle.store_sql.proofs.entries.parsed_entry.Goals as goal

pub returns-in-None-clause-value : goal.returns-in-None-clause-value
returns-in-None-clause-value c kept found =
    let none : slice_get c.args.rows.items 0 ≡ None = search rules in
    entry_none c.args.calendar.now c.args.from.now kept c.args.rows.items c.as_str-name.ensures.is_name found
    (first_none c.args.rows.items none)

pub returns-clause-value : goal.returns-clause-value
returns-clause-value c kept found =
    let some : slice_get c.args.rows.items 0 ≡ Some c.in-Some.row.now = search rules in
    entry_some c.args.calendar.now c.args.from.now kept c.args.rows.items c.as_str-name.ensures.is_name found c.in-Some.row.now _ _
    (first_some c.args.rows.items c.in-Some.row.now some) c.in_ok-entry_at-in-Some.ensures.value

pub returns-in_err-entry_at-in-Some-clause-bad : goal.returns-in_err-entry_at-in-Some-clause-bad
returns-in_err-entry_at-in-Some-clause-bad c kept found =
    let some : slice_get c.args.rows.items 0 ≡ Some c.in-Some.row.now = search rules in
    if_err c.from_residual.result (entry_bad c.args.calendar.now c.args.from.now kept c.args.rows.items
    c.as_str-name.ensures.is_name found c.in-Some.row.now _ (first_some c.args.rows.items c.in-Some.row.now some)
    c.in_err-entry_at-in-Some.ensures.bad)
