-- The text of the zone of a building file.
use Rattle.std.specs.Prelude.{ℕ, List, Option, codes, option_and_then}
use Rattle.toml.specs.Data.{Members, as_str, get_member}
use Rattle.toml.specs.Parse.{parse_document}
use Rattle.points.specs.Texts.{text_of}

-- the text at the key `zone` of a table
abbrev pub zone_in : Members → Option (List ℕ)
zone_in members = option_and_then as_str (get_member (codes "zone") members)

abbrev pub zone_of_text : List ℕ → Option (List ℕ)
zone_of_text text = option_and_then zone_in (parse_document text)

-- by `toml`'s own reading of the bytes
abbrev pub zone_of : List ℕ → Option (List ℕ)
zone_of bytes = option_and_then zone_of_text (text_of bytes)
