use Rattle.std.proofs.Common.{None, unwrap_or, rules}
use Rattle.std.specs.HashMap as hash
use Rattle.std.specs.Str.{bytes_eq}
use Rattle.std.specs.FinMap.{empty}
use Rattle.store_memory.specs.Held.{array_at}
use Rattle.store_memory.proofs.HeldLemmas.{Alters, stands_for}
use Rattle.store_memory.proofs.arrays.Arrays.make_array.Goals.{In_ok-insert}
use Rattle.store_memory.proofs.arrays.Arrays.make_array.Goals as goal

alters : (c : In_ok-insert) → Alters c.args.point.now None c.new.result (array_at c.args.self.now) (hash.get bytes_eq c.insert.new.self)
alters c = record {
  before = search rules;
  after = c.in_ok-insert.ensures.updates.0;
}

pub returns-in_ok-insert-clause-same : goal.returns-in_ok-insert-clause-same
returns-in_ok-insert-clause-same c = λ q. stands_for (alters (goal.at.returns-in_ok-insert-clause-same c).In_ok-insert) (λ o. unwrap_or o empty) q c.new.ensures
