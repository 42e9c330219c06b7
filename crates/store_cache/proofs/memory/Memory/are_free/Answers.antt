use Rattle.std.proofs.Common.{◌≡◌, Some, arith, rules}
use Rattle.std.specs.HashMap.{get}
use Rattle.std.specs.Str.{bytes_eq}
use Rattle.store_cache.proofs.memory.Memory.are_free.Goals as goal

pub returns-in-Some : goal.returns-in-Some
returns-in-Some c = λ tables rows recalls all n after before.
    let known : get bytes_eq c.args.self.now.free c.args.panel.now ≡ Some c.in-Some.free.now = search rules in
    let within = c.has_all.ensures all in
    (recalls.free c.args.panel.now c.in-Some.free.now known).0 n (omega (arith, within.0)) (omega (arith, within.1))
