use Rattle.std.proofs.Common.{◌≡◌, ◌∙◌, true, Option, Some, None, is_none, refl, sym}
use Rattle.points.specs.declared.rule.Rule.{Rule}
use Rattle.deliveries.specs.Machine.{rule_for}
use Rattle.desk_commands.proofs.CommandLemmas.{names_a_place}
use Rattle.desk_why.proofs.commands.act_on.Goals as goal

no_rule : (rule : Option Rule) → is_none rule ≡ true → rule ≡ None
no_rule None is = refl
no_rule (Some rule) is = absurd cc

pub put_content-requires : goal.put_content-requires
put_content-requires c =
    let b = c.args.building.now in
    let panel = c.args.panel.now in
    let content = c.args.entry.now.row.content in
    names_a_place b panel content (no_rule (rule_for b panel content) (sym c.is_permitted.ensures ∙ c.if-not-is_permitted.false))
