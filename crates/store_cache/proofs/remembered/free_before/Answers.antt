use Rattle.std.proofs.Common.{◌≡◌, ◌<◌, None, Some, slice_get, arith, rules}
use Rattle.store_cache.proofs.FreeLemmas.{first_of, none_of, run_first, run_none}
use Rattle.store_cache.proofs.remembered.free_before.Goals as goal

pub returns-in-Some : goal.returns-in-Some
returns-in-Some c = λ rows is n after before.
    let run = c.args.run.now in
    let row = c.in-Some.row.now in
    let first : slice_get run 0 ≡ Some row = search rules in
    let within = c.between.ensures n after before in
    let least : n < row.number = search (rules, within) in
    let under : n < c.args.upto = search (rules, within) in
    (within.0, omega arith, run_first rows c.args.from c.args.upto run row _ is (first_of run row first) n within.0 least)

pub returns-in-None : goal.returns-in-None
returns-in-None c = λ rows is n after before.
    let run = c.args.run.now in
    let none : slice_get run 0 ≡ None = search rules in
    (after, before, run_none rows c.args.from c.args.upto run c.requires is (none_of run none) n after before)
