use Rattle.std.proofs.Common.{◌≡◌, List, [], ◌∷◌, length, refl, arith}
use Rattle.toml.specs.View.{items_view}
use Rattle.toml.specs.declared.value.Value.{Value}
use Rattle.building.specs.Items.{count_of}
use Rattle.building.proofs.fields.count.Goals as goal

same_count : (vs : List Value) → length vs ≡ count_of (items_view vs)
same_count [] = refl
same_count (v ∷ vs) = omega (arith, same_count vs)

pub returns : goal.returns
returns c = same_count c.args.items.now
