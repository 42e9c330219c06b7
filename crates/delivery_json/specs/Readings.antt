-- What a member of an object tells, by `serde_json`'s own reading of it.
use Rattle.std.specs.Prelude.{ℕ, ℤ, pos, Bool, true, ◌&&◌, List, [], ◌∷◌, Option, Some, None, codes, option_map, unwrap_or}
use Rattle.std.specs.List.{list_any}
use Rattle.std.specs.Str.{bytes_eq}
use Rattle.serde_json.specs.Data as json
use Rattle.serde_json.specs.Data.{Data, Members, no_members, member}
use Rattle.serde_json.specs.Find.{as_i64, as_number, as_str}
use Rattle.points.specs.Steps.{◌>>=◌}
use Rattle.points.specs.Texts.{name_of}

-- whether the members have no key but these
abbrev pub has_only : List (List ℕ) → Members → Bool
has_only known no_members = true
has_only known (member key value ms) =
    list_any (λ k. bytes_eq k key) known && has_only known ms

-- the keys that a command's object may have
abbrev pub command_keys : List (List ℕ)
command_keys = codes "number" ∷ codes "panel" ∷ codes "point" ∷ codes "priority" ∷ codes "value" ∷ []

abbrev pub integer_in : Data → Option ℤ
integer_in d = as_number d >>= as_i64

abbrev pub name_in : Data → Option (List ℕ)
name_in d = as_str d >>= name_of

-- a number, or null for NULL
abbrev pub value_in : Data → Option (Option ℤ)
value_in json.null = Some None
value_in (json.boolean b) = None
value_in (json.number n) = option_map (λ z. Some z) (as_i64 n)
value_in (json.string s) = None
value_in (json.array ds) = None
value_in (json.object ms) = None

-- a priority that is missing, or null, is 16 (19.2)
abbrev pub priority_in : Option Data → Option ℤ
priority_in None = Some (pos 16)
priority_in (Some d) = option_map (λ v. unwrap_or v (pos 16)) (value_in d)
