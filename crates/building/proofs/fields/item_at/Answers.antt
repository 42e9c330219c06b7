use Rattle.std.proofs.Common.{◌≡◌, ◌∙◌, ℕ, zero, suc, List, [], ◌∷◌, Option, Some, None, option_map, slice_get, Bor, refl, ap}
use Rattle.std.specs.Option.{option_copied}
use Rattle.toml.specs.Data.{get_item}
use Rattle.toml.specs.View.{items_view, view}
use Rattle.toml.specs.declared.value.Value.{Value}
use Rattle.building.proofs.fields.item_at.Goals as goal

same_item : (vs : List Value) (n : ℕ) → option_map view (slice_get vs n) ≡ get_item n (items_view vs)
same_item [] n = refl
same_item (v ∷ vs) zero = refl
same_item (v ∷ vs) (suc n) = same_item vs n

seen : (r : Option (Bor Value)) → option_map (λ v. view v.now) r ≡ option_map view (option_copied r)
seen None = refl
seen (Some v) = refl

pub returns : goal.returns
returns c = seen c.nth.result ∙ ap (option_map view) c.nth.ensures ∙ same_item c.args.items.now c.args.index
