use Rattle.std.proofs.Common.{rules, true, codes}
use Rattle.clap.specs.Simple.{on_top}
use Rattle.clap.specs.Words.{App, new_app}
use Rattle.cli_words.proofs.commands.desk_command.Goals as goal

pub returns : goal.returns
returns c =
    let desk : App = on_top (λ s. record s { has_version = true; subcommand_required = true }) (new_app (codes "desk")) in
    c.with_subcommand.ensures _ _
    (c.with_subcommand-desk-12.ensures _ _
    (c.with_subcommand-desk-11.ensures _ _
    (c.with_subcommand-desk-10.ensures _ _
    (c.with_subcommand-desk-9.ensures _ _
    (c.with_subcommand-desk-8.ensures _ _
    (c.with_subcommand-desk-7.ensures _ _
    (c.with_subcommand-desk-6.ensures _ _
    (c.with_subcommand-desk-5.ensures _ _
    (c.with_subcommand-desk-4.ensures _ _
    (c.with_subcommand-desk-3.ensures _ _
    (c.with_subcommand-desk-2.ensures _ _
    (c.with_subcommand-desk.ensures desk _ (search rules) c.check_command.ensures)
    c.describe_command.ensures) c.replay_command.ensures) c.why_command.ensures) c.overrides_command.ensures)
    c.straighten_command.ensures) c.import_command.ensures) c.tick_command.ensures) c.report_command.ensures) c.serve_command.ensures)
    c.adopt_command.ensures)
    c.rebuild_command.ensures)
    c.days_command.ensures
