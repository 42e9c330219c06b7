use Rattle.std.proofs.Common.{◌≡◌, ◌∙◌, List, [], ◌∷◌, ◌&&◌, string_bytes, bytes_eq, refl, ap}
use Rattle.std.specs.List.{list_all, list_any}
use Rattle.std.specs.Map.{keys_of}
use Rattle.toml.proofs.Views.{Entry}
use Rattle.toml.specs.View.{members_view}
use Rattle.building.specs.declared.key.Key.{Key}
use Rattle.building.specs.FaultLine.{key_text}
use Rattle.building.specs.Fields.{has_only}
use Rattle.building.proofs.fields.has_only.Goals as goal

known_keys : (known : List Key) (es : List Entry)
    → list_all (λ key. list_any (λ k. bytes_eq (key_text k) (string_bytes key)) known) (keys_of es)
    ≡ has_only known (members_view es)
known_keys known [] = refl
known_keys known (e ∷ es) =
    ap (λ b. list_any (λ k. bytes_eq (key_text k) (string_bytes e.0)) known && b) (known_keys known es)

pub returns : goal.returns
returns c = c.each_key_is_among.ensures ∙ known_keys c.args.known.now c.args.table.now.entries
