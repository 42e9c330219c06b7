use Rattle.std.proofs.Common.{◌∙◌, ap, not, sym}
use Rattle.building_explanations.proofs.OneLineLemmas.{IsOneLine-pushed}
use Rattle.building_explanations.proofs.one_line.push_shown.Goals as goal

pub returns-else-is_control : goal.returns-else-is_control
returns-else-is_control c =
    IsOneLine-pushed c.push.result _ _ c.args.character c.push.ensures.bytes (ap not (sym c.is_control.ensures ∙ c.if-is_control.false))
