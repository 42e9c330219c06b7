use Rattle.std.proofs.Common.{refl, sym}
use Rattle.store_sql.proofs.ParsedLemmas.{if_err, shown_bad, shown_none, shown_one, shown_several, shown_stood, shown_stood_none}
use Rattle.store_sql.proofs.finding.parsed_shown.Goals as goal

pub returns-in_err-only-clause-bad : goal.returns-in_err-only-clause-bad
returns-in_err-only-clause-bad c kept found =
    if_err c.from_residual.result (shown_several c.args.schedule.now kept c.args.rows.items c.as_str-name.ensures.is_name found
    c.in_err-only.ensures.several)

pub returns-in-None-clause-value : goal.returns-in-None-clause-value
returns-in-None-clause-value c kept found =
    sym (shown_none c.args.schedule.now kept c.args.rows.items c.as_str-name.ensures.is_name found
    (c.in_ok-only.ensures.none (rw c.in-None.is refl)))

pub returns-in_ok-optional_at-in-Some-clause-value : goal.returns-in_ok-optional_at-in-Some-clause-value
returns-in_ok-optional_at-in-Some-clause-value c kept found =
    sym (shown_one c.args.schedule.now kept c.args.rows.items c.as_str-name.ensures.is_name found c.in-Some.row _
    (rw c.in-Some.is at c.in_ok-only.ensures.one) c.in_ok-optional_at-in-Some.ensures.value)

pub returns-in_err-optional_at-in-Some-clause-bad : goal.returns-in_err-optional_at-in-Some-clause-bad
returns-in_err-optional_at-in-Some-clause-bad c kept found =
    if_err c.from_residual-in_err-optional_at-in-Some.result
    (shown_bad c.args.schedule.now kept c.args.rows.items c.as_str-name.ensures.is_name found c.in-Some.row
    (rw c.in-Some.is at c.in_ok-only.ensures.one) c.in_err-optional_at-in-Some.ensures.bad)

pub returns-in_ok-optional_at-in-Some-clause-stood : goal.returns-in_ok-optional_at-in-Some-clause-stood
returns-in_ok-optional_at-in-Some-clause-stood c kept found =
    shown_stood c.args.schedule.now kept c.args.rows.items c.as_str-name.ensures.is_name found c.in-Some.row _
    (rw c.in-Some.is at c.in_ok-only.ensures.one) c.in_ok-optional_at-in-Some.ensures.value

pub returns-in-None-clause-stood : goal.returns-in-None-clause-stood
returns-in-None-clause-stood c kept found =
    shown_stood_none c.args.schedule.now kept c.args.rows.items c.as_str-name.ensures.is_name found
    (c.in_ok-only.ensures.none (rw c.in-None.is refl))
