use Rattle.std.proofs.Common.{refl, sym}
use Rattle.store_sql.proofs.ParsedLemmas.{count_given, if_err, command_bad, command_none, command_one, command_several, command_stood, command_stood_none}
use Rattle.store_sql.proofs.finding.parsed_command.Goals as goal

pub returns-in_err-only-clause-bad : goal.returns-in_err-only-clause-bad
returns-in_err-only-clause-bad c kept found =
    if_err c.from_residual.result (command_several c.args.panel.now c.args.number kept c.args.rows.items
    (c.as_str-name.ensures.is_name, count_given 1 1_000_000_000_000 c.args.number c.requires.at_least_1 c.requires.greatest) found
    c.in_err-only.ensures.several)

pub returns-in-None-clause-value : goal.returns-in-None-clause-value
returns-in-None-clause-value c kept found =
    sym (command_none c.args.panel.now c.args.number kept c.args.rows.items
    (c.as_str-name.ensures.is_name, count_given 1 1_000_000_000_000 c.args.number c.requires.at_least_1 c.requires.greatest) found
    (c.in_ok-only.ensures.none (rw c.in-None.is refl)))

pub returns-in_ok-command_at-in-Some-clause-value : goal.returns-in_ok-command_at-in-Some-clause-value
returns-in_ok-command_at-in-Some-clause-value c kept found =
    sym (command_one c.args.panel.now c.args.number kept c.args.rows.items
    (c.as_str-name.ensures.is_name, count_given 1 1_000_000_000_000 c.args.number c.requires.at_least_1 c.requires.greatest) found
    c.in-Some.row _ (rw c.in-Some.is at c.in_ok-only.ensures.one) c.in_ok-command_at-in-Some.ensures.value)

pub returns-in_err-command_at-in-Some-clause-bad : goal.returns-in_err-command_at-in-Some-clause-bad
returns-in_err-command_at-in-Some-clause-bad c kept found =
    if_err c.from_residual-in_err-command_at-in-Some.result
    (command_bad c.args.panel.now c.args.number kept c.args.rows.items
    (c.as_str-name.ensures.is_name, count_given 1 1_000_000_000_000 c.args.number c.requires.at_least_1 c.requires.greatest) found
    c.in-Some.row (rw c.in-Some.is at c.in_ok-only.ensures.one) c.in_err-command_at-in-Some.ensures.bad)

pub returns-in_ok-command_at-in-Some-clause-stood : goal.returns-in_ok-command_at-in-Some-clause-stood
returns-in_ok-command_at-in-Some-clause-stood c kept found =
    command_stood c.args.panel.now c.args.number kept c.args.rows.items
    (c.as_str-name.ensures.is_name, count_given 1 1_000_000_000_000 c.args.number c.requires.at_least_1 c.requires.greatest) found
    c.in-Some.row _ (rw c.in-Some.is at c.in_ok-only.ensures.one) c.in_ok-command_at-in-Some.ensures.value

pub returns-in-None-clause-stood : goal.returns-in-None-clause-stood
returns-in-None-clause-stood c kept found =
    command_stood_none c.args.panel.now c.args.number kept c.args.rows.items
    (c.as_str-name.ensures.is_name, count_given 1 1_000_000_000_000 c.args.number c.requires.at_least_1 c.requires.greatest) found
    (c.in_ok-only.ensures.none (rw c.in-None.is refl))
