use Rattle.std.proofs.Common.{refl, sym}
use Rattle.store_sql.proofs.ParsedLemmas.{if_err, next_err, next_none, next_ok_stood, next_stood_none, next_ok, next_several}
use Rattle.store_sql.proofs.finding.parsed_next.Goals as goal

pub returns-in_err-only-clause-bad : goal.returns-in_err-only-clause-bad
returns-in_err-only-clause-bad c kept found =
    if_err c.from_residual.result (next_several c.args.panel.now kept c.args.rows.items c.as_str-name.ensures.is_name found
    c.in_err-only.ensures.several)

pub returns-in-Some-clause-value : goal.returns-in-Some-clause-value
returns-in-Some-clause-value c kept found =
    next_ok c.args.panel.now kept c.args.rows.items c.as_str-name.ensures.is_name found c.count_at.result c.in-Some.row
    (rw c.in-Some.is at c.in_ok-only.ensures.one) c.count_at.ensures.value

pub returns-in-Some-clause-bad : goal.returns-in-Some-clause-bad
returns-in-Some-clause-bad c kept found =
    next_err c.args.panel.now kept c.args.rows.items c.as_str-name.ensures.is_name found c.count_at.result c.in-Some.row
    (rw c.in-Some.is at c.in_ok-only.ensures.one) c.count_at.ensures.bad

pub returns-in-None-clause-value : goal.returns-in-None-clause-value
returns-in-None-clause-value c kept found =
    sym (next_none c.args.panel.now kept c.args.rows.items c.as_str-name.ensures.is_name found
    (c.in_ok-only.ensures.none (rw c.in-None.is refl)))

pub returns-in-Some-clause-stood : goal.returns-in-Some-clause-stood
returns-in-Some-clause-stood c kept found =
    next_ok_stood c.args.panel.now kept c.args.rows.items c.as_str-name.ensures.is_name found c.count_at.result c.in-Some.row
    (rw c.in-Some.is at c.in_ok-only.ensures.one) c.count_at.ensures.value

pub returns-in-None-clause-stood : goal.returns-in-None-clause-stood
returns-in-None-clause-stood c kept found =
    next_stood_none c.args.panel.now kept c.args.rows.items c.as_str-name.ensures.is_name found
    (c.in_ok-only.ensures.none (rw c.in-None.is refl))
