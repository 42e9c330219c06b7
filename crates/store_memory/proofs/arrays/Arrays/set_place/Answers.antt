use Rattle.std.proofs.Common.{refl, Some, IsSome, unwrap_or}
use Rattle.std.specs.HashMap as hash
use Rattle.std.specs.Str.{bytes_eq}
use Rattle.std.specs.FinMap.{empty}
use Rattle.indexmap.specs.IndexMap.{with_value_at}
use Rattle.points.specs.PriorityArray.{put}
use Rattle.store_memory.specs.Held.{array_at}
use Rattle.store_memory.proofs.HeldLemmas.{Alters, alters_at, changed, written}
use Rattle.store_memory.proofs.arrays.Arrays.set_place.Goals.{After-set}
use Rattle.store_memory.proofs.arrays.Arrays.set_place.Goals as goal

alters : (c : After-set) → Alters c.args.item.now.point (Some c.in-Some-get_index_mut.array.now) c.set.new.self (array_at c.args.self.now)
    (hash.get bytes_eq (with_value_at c.args.self.now.arrays c.in-Some.index c.set.new.self))
alters c = alters_at c.args.self.now.arrays c.in-Some.index c.args.item.now.point c.in-Some-get_index_mut.array.now c.set.new.self
    c.get_index_mut.ensures.unique c.in-Some.ensures.entry c.in-Some-get_index_mut.ensures.value

pub returns-in-Some-get_index_mut-clause-places : goal.returns-in-Some-get_index_mut-clause-places
returns-in-Some-get_index_mut-clause-places c = λ q.
    let item = c.args.item.now in
    written (alters (goal.at.returns-in-Some-get_index_mut-clause-places c).After-set) (λ o. unwrap_or o empty) (λ places. put places item.priority item.value) q c.set.ensures

pub returns-in-Some-get_index_mut-clause-stays : goal.returns-in-Some-get_index_mut-clause-stays
returns-in-Some-get_index_mut-clause-stays c = λ q.
    changed (alters (goal.at.returns-in-Some-get_index_mut-clause-stays c).After-set) (λ o n. IsSome o → IsSome n) q (λ here. refl) (λ o here. here)
