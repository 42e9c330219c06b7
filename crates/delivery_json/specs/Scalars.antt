-- The value that a token is by itself.
use Rattle.std.specs.Prelude.{ℕ, ℤ, Bool, List, Option, Some, None, option_map}
use Rattle.fast_float.specs.Text.{Parts}
use Rattle.json.specs.Token as token
use Rattle.json.specs.Token.{Token}
use Rattle.serde_json.specs.Data.{Data, boolean, null, number, string}
use Rattle.serde_json.specs.Find.{as_i64}
use Rattle.serde_json.specs.Read.{number_from, number_of}
use Rattle.points.specs.Steps.{◌>>=◌}

abbrev pub scalar_of : Token → Option Data
scalar_of token.begin_object = None
scalar_of token.end_object = None
scalar_of token.begin_array = None
scalar_of token.end_array = None
scalar_of (token.key s) = None
scalar_of (token.string s) = Some (string s)
scalar_of (token.number s) = option_map number (number_of s)
scalar_of (token.boolean b) = Some (boolean b)
scalar_of token.null = Some null
scalar_of token.bad = None

-- what a token tells that is a value by itself
abbrev pub parsed_by : {A : Type 0} → (Data → Option A) → Token → Option A
parsed_by tells t = scalar_of t >>= tells

-- the integer of 64 bits that a number's text writes, and that its parts are below a sign
abbrev pub written_integer : List ℕ → Option ℤ
written_integer text = number_of text >>= as_i64

abbrev pub signed_integer : Bool → Parts → Option ℤ
signed_integer sign parts = number_from sign parts >>= as_i64
