use Rattle.store_sql.proofs.OpenLemmas.{never_empty, version_reported, version_unreported}
use Rattle.store_sql.proofs.version.parsed_version.Goals as goal

pub returns-in-Some-clause-value : goal.returns-in-Some-clause-value
returns-in-Some-clause-value c kept one found =
    version_reported kept c.args.rows.now c.in-Some.row.now one found c.in-Some.ensures.value c.number_at.result c.number_at.ensures.value

pub returns-in-Some-clause-bad : goal.returns-in-Some-clause-bad
returns-in-Some-clause-bad c kept one found =
    version_unreported kept c.args.rows.now c.in-Some.row.now one found c.in-Some.ensures.value c.number_at.result c.number_at.ensures.bad

pub returns-in-None-clause-bad : goal.returns-in-None-clause-bad
returns-in-None-clause-bad c kept one found = absurd (never_empty kept c.args.rows.now one found c.in-None.ensures.value)
