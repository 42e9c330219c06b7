use Rattle.std.proofs.Common.{unwrap_or}
use Rattle.std.specs.FinMap.{empty}
use Rattle.std.specs.HashMap as hash
use Rattle.std.specs.Str.{bytes_eq}
use Rattle.store_memory.proofs.HeldLemmas.{replaced}
use Rattle.store_memory.proofs.arrays.Arrays.keep.Goals as goal

pub returns : goal.returns
returns c = λ q.
    replaced (λ o. unwrap_or o empty) (bytes_eq c.args.point.now q) c.args.array (hash.get bytes_eq c.args.self.now.arrays q)
    (hash.get bytes_eq c.insert.new.self q) (c.in_ok-insert.ensures.updates.0 q)
