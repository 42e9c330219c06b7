use Rattle.std.proofs.Common.{◌≡◌, ◌∙◌, ℕ, List, [], ◌∷◌, ◌&&◌, map, string_bytes, Bor, bytes_eq, refl, ap₂}
use Rattle.std.specs.List.{list_all, list_any}
use Rattle.std.specs.Map.{keys_of}
use Rattle.serde_json.proofs.Views.{Entry}
use Rattle.serde_json.specs.View.{members_view}
use Rattle.delivery_json.specs.Members.{has_only}
use Rattle.points.proofs.KeyLemmas.{known_key}
use Rattle.delivery_json.proofs.members.has_only.Goals as goal

known_keys : (known : List (Bor (List ℕ))) (es : List Entry)
    → list_all (λ key. list_any (λ k. bytes_eq k.now (string_bytes key)) known) (keys_of es)
    ≡ has_only (map (λ k. k.now) known) (members_view es)
known_keys known [] = refl
known_keys known (e ∷ es) = ap₂ (λ a b. a && b) (known_key known (string_bytes e.0)) (known_keys known es)

pub returns : goal.returns
returns c = c.each_key_is_among.ensures ∙ known_keys c.args.known.now c.args.members.now.entries
