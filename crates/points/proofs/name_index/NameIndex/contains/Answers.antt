use Rattle.std.proofs.Common.{bytes_eq, is_some, ap, ◌∙◌}
use Rattle.points.proofs.NameIndexLemmas.{is_some-position}
use Rattle.points.proofs.name_index.NameIndex.contains.Goals as goal

pub returns : goal.returns
returns c = c.is_some.ensures ∙ (ap is_some c.position.ensures ∙ is_some-position (λ n. bytes_eq n c.args.name.now) c.args.self.now)
