use Rattle.std.proofs.Common.{◌∙◌, ◌++◌, ap, codes}
use Rattle.serde_json.specs.Written.{compact_text, has_float}
use Rattle.desk_cli.specs.Description.{description_line}
use Rattle.desk_cli.proofs.FloatLemmas.{no_float}
use Rattle.desk_cli.proofs.description.description_line.Goals as goal

pub returns : goal.returns
unfolding description_line
returns c =
    let is = c.in_ok-description_of.ensures in
    c.in_ok-push_str.ensures.bytes ∙ ap (λ text. text ++ codes "\n")
    (c.in_ok-line.ensures.text (ap has_float is ∙ no_float _ _) ∙ ap compact_text is)
