use Rattle.std.proofs.Common.{refl}
use Rattle.store_sql.proofs.ParsedLemmas.{if_err, last_err, last_none, last_ok, last_ok_stood, last_several}
use Rattle.store_sql.proofs.finding.parsed_last.Goals as goal

pub returns-in_err-only-clause-bad : goal.returns-in_err-only-clause-bad
returns-in_err-only-clause-bad c kept found =
    if_err c.from_residual.result (last_several kept c.args.rows.items found c.in_err-only.ensures.several)

pub returns-in-Some-clause-value : goal.returns-in-Some-clause-value
returns-in-Some-clause-value c kept found =
    last_ok kept c.args.rows.items found c.optional_at.result c.in-Some.row (rw c.in-Some.is at c.in_ok-only.ensures.one)
    c.optional_at.ensures.value

pub returns-in-Some-clause-bad : goal.returns-in-Some-clause-bad
returns-in-Some-clause-bad c kept found =
    last_err kept c.args.rows.items found c.optional_at.result c.in-Some.row (rw c.in-Some.is at c.in_ok-only.ensures.one)
    c.optional_at.ensures.bad

pub returns-in-None-clause-bad : goal.returns-in-None-clause-bad
returns-in-None-clause-bad c kept found = last_none kept c.args.rows.items found (c.in_ok-only.ensures.none (rw c.in-None.is refl))

pub returns-in-Some-clause-stood : goal.returns-in-Some-clause-stood
returns-in-Some-clause-stood c kept found =
    last_ok_stood kept c.args.rows.items found c.optional_at.result c.in-Some.row (rw c.in-Some.is at c.in_ok-only.ensures.one)
    c.optional_at.ensures.value
