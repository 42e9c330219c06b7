use Rattle.std.proofs.Common.{◌≡◌, ◌∙◌, List, [], Option, map, subst}
use Rattle.std.specs.Prelude.{IfOk, unwrap_or}
use Rattle.clap.proofs.WalkLemmas.{raw_values-rows}
use Rattle.clap.specs.Words.{Text, found_of}
use Rattle.cli_words.proofs.line.texts_at.Goals as goal

pub returns : goal.returns
returns c =
    subst (λ (all : Option (List Text)). IfOk c.copied.result (λ texts. map (λ s. s.now) texts.items ≡ unwrap_or all []))
    (c.get_strs.ensures ∙ raw_values-rows (found_of c.args.matches.now) c.args.id.now) c.copied.ensures
