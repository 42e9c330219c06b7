use Rattle.std.proofs.Common.{◌≡◌, ℕ, List, Some, bytes_eq, cond, rules}
use Rattle.std.specs.HashMap as hash
use Rattle.store_cache.proofs.FreeLemmas.{free_put}
use Rattle.store_cache.proofs.memory.put_row.Goals as goal

pub returns-in-Some : goal.returns-in-Some
returns-in-Some c = λ rows stuck knows.
    let item = c.args.item.now in
    let held : hash.get bytes_eq c.args.known.now item.panel ≡ Some c.in-Some.free.now = search rules in
    let puts : (q : List ℕ) → hash.get bytes_eq (c.get_mut.follows.lender c.without.result) q
    ≡ cond (bytes_eq item.panel q) (Some c.without.result) (hash.get bytes_eq c.args.known.now q) = search rules in
    free_put (hash.get bytes_eq c.args.known.now) (hash.get bytes_eq (c.get_mut.follows.lender c.without.result)) item rows stuck
    c.in-Some.free.now c.without.result held puts c.without.ensures knows
