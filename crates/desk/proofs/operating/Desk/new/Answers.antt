use Rattle.std.proofs.Common.{◌∙◌, ap}
use Rattle.store.specs.Standing.{sound}
use Rattle.deliveries.proofs.EmptyLemmas.{tables-none}
use Rattle.desk.proofs.operating.Desk.new.Goals as goal

pub returns-clause-begins : goal.returns-clause-begins
returns-clause-begins g c = c.requires.empty ∙ ap sound (tables-none c.args.building)

-- nothing is kept
pub invariant_of-result : goal.invariant_of-result
invariant_of-result g c = record {
  spans = c.new.ensures.spans c.args.building;
  today = λ _ _. c.new.ensures.today c.args.building (g.S.Store.standing c.args.store).content.tables.imported;
}
