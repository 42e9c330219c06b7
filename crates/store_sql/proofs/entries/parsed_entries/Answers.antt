use Rattle.std.proofs.Common.{◌≡◌, ◌<◌, ◌∙◌, Result, Ok, Err, IfErr, length, map, take, take_all, subst, arith}
use Rattle.std.specs.List.{Contains}
use Rattle.dates.specs.Entry.{spelling}
use Rattle.sqlite_rules.proofs.ListLemmas.{has_at}
use Rattle.store.specs.Listed.{AreTexts}
use Rattle.store_sql_rows.specs.declared.read_fault.ReadFault.{ReadFault}
use Rattle.store_sql_rows.specs.declared.read_fault.ReadFault.TheVariants.{BadRow}
use Rattle.store_sql.proofs.EntryLemmas.{AreSpelled, entries_all, entries_bad, entries_stand, spelled_more}
use Rattle.store_sql.proofs.entries.parsed_entries.Goals as goal

pub loop-row-preserved : goal.loop-row-preserved
loop-row-preserved c =
    let below : c.loop-row.row-index < length c.deref-row-items.result.now = omega arith in
    rw c.in_ok-push.ensures.items (spelled_more c.deref-row-items.result.now c.loop-row.row-index c.row-item.result
    c.loop-row.entries.items c.in_ok-entry_at.field-0 below c.row-item.is c.loop-row.invariant c.in_ok-entry_at.ensures.value)

-- after the loop all rows have been read
all_spelled : (c : goal.After-drop-rows-in-Ok) → AreSpelled c.args.rows.items c.loop-row.entries.items
all_spelled c =
    let whole : take c.loop-row.row-index c.deref-row-items.result.now ≡ c.args.rows.items =
    take_all c.loop-row.row-index c.deref-row-items.result.now (omega arith) ∙ c.deref-row-items.ensures.value in
    subst (λ rows. AreSpelled rows c.loop-row.entries.items) whole c.loop-row.invariant

pub returns-in-Ok-clause-value : goal.returns-in-Ok-clause-value
returns-in-Ok-clause-value c kept found =
    entries_all c.args.calendar.now kept c.args.rows.items c.as_str-name.ensures.is_name found c.loop-row.entries.items (all_spelled c)
    c.in-Ok.ordered.items
    (subst (λ entries. AreTexts (Contains (map spelling entries)) (map spelling c.in-Ok.ordered.items)) c.deref.ensures.value
    c.in-Ok.ensures)

pub returns-in-Ok-clause-stood : goal.returns-in-Ok-clause-stood
returns-in-Ok-clause-stood c kept found =
    entries_stand c.args.calendar.now kept c.args.rows.items c.as_str-name.ensures.is_name found c.loop-row.entries.items (all_spelled c)

-- at an error, whatever the fault is
if_bad : {A P : Type 0} (r : Result A ReadFault) → P → IfErr r (λ fault. fault ≡ BadRow → P)
if_bad (Ok x) p = tt
if_bad (Err fault) p = λ _. p

pub returns-in_err-entry_at-clause-bad : goal.returns-in_err-entry_at-clause-bad
returns-in_err-entry_at-clause-bad c kept found =
    let below : c.loop-row.row-index < length c.deref-row-items.result.now = omega arith in
    if_bad c.from_residual.result (entries_bad c.args.calendar.now kept c.deref-row-items.result.now c.as_str-name.ensures.is_name
    (rw c.deref-row-items.ensures.value found) c.row-item.result
    (has_at c.deref-row-items.result.now c.loop-row.row-index c.row-item.result below c.row-item.is) c.in_err-entry_at.ensures.bad)
