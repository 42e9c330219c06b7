use Rattle.std.proofs.Common.{◌≡◌, ◌∙◌, ◌&&◌, List, [], ◌∷◌, is_some, refl, ap}
use Rattle.std.specs.List.{list_all}
use Rattle.toml.specs.Data.{as_table}
use Rattle.toml.specs.View.{items_view, view}
use Rattle.toml.specs.declared.value.Value.{Value}
use Rattle.building.specs.Items.{are_tables}
use Rattle.building.proofs.fields.are_tables.Goals as goal

same_tables : (vs : List Value) → list_all (λ item. is_some (as_table (view item))) vs ≡ are_tables (items_view vs)
same_tables [] = refl
same_tables (v ∷ vs) = ap (λ b. is_some (as_table (view v)) && b) (same_tables vs)

pub returns : goal.returns
returns c = c.each_is_a_table.ensures ∙ same_tables c.args.items.now
