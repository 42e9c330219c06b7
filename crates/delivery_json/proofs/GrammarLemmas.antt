-- An object's members under the grammar, where each is a value by itself.
use Rattle.std.proofs.Common.{◌≡◌, ◌∙◌, ◌-◌, ◌<◌, ◌≤◌, ℕ, List, [], ◌∷◌, length, Option, Some, None, option_and_then, option_map, refl, ap, arith}
use Rattle.json.specs.Json as json
use Rattle.json.specs.Json.{Json, if_last, parse_map, read_key, value}
use Rattle.json.specs.Lex.{tokens}
use Rattle.json.specs.Token as token
use Rattle.json.specs.Token.{Token}
use Rattle.json.proofs.Grammar.{members_end, members_more, value_is, value-begin_object}
use Rattle.serde_json.specs.Data.{Data, Members, no_members, object, put}
use Rattle.serde_json.specs.Read.{converted, of_json, of_members, read}
use Rattle.delivery_json.specs.Scalars.{scalar_of}

-- the value in JSON of a token that is one by itself
scalar_json : (depth : ℕ) (t : Token) (r : List Token) (d : Data) → scalar_of t ≡ Some d
    → (j : Json) × (value depth (t ∷ r) ≡ Some (j, r)) × (of_json j ≡ Some d)
scalar_json depth token.begin_object r d e = absurd (cc)
scalar_json depth token.end_object r d e = absurd (cc)
scalar_json depth token.begin_array r d e = absurd (cc)
scalar_json depth token.end_array r d e = absurd (cc)
scalar_json depth (token.key s) r d e = absurd (cc)
scalar_json depth (token.string s) r d e = (json.string s, value_is depth _, e)
scalar_json depth (token.number s) r d e = (json.number s, value_is depth _, e)
scalar_json depth (token.boolean b) r d e = (json.boolean b, value_is depth _, e)
scalar_json depth token.null r d e = (json.null, value_is depth _, e)
scalar_json depth token.bad r d e = absurd (cc)

with_first : (k : List ℕ) (j : Json) (d : Data) (old : Members) → of_json j ≡ Some d → (o : Option (json.Members × List Token))
    → converted (λ ms. of_members ms old) (parse_map (json.member k j) o) ≡ converted (λ ms. of_members ms (put k d old)) o
with_first k j d old e None = refl
with_first k j d old e (Some p) = rw e

-- a member more
pub member_taken : (depth n : ℕ) (k : List ℕ) (ts s r : List Token) (t : Token) (d : Data) (old : Members) → 0 < n
    → read_key ts ≡ Some (Some k, s) → s ≡ t ∷ r → scalar_of t ≡ Some d
    → converted (λ ms. of_members ms old) (json.members (value depth) n ts)
    ≡ converted (λ ms. of_members ms (put k d old)) (json.members (value depth) (n - 1) r)
member_taken depth n k ts s r t d old some named one scalar =
    let found = scalar_json depth t r d scalar in
    ap (converted (λ ms. of_members ms old)) (members_more (value depth) n k ts s r found.0 some named
    (ap (value depth) one ∙ found.1)) ∙ with_first k found.0 d old found.2 _

-- no member more
pub members_over : (depth n : ℕ) (ts r : List Token) (old : Members) → length ts ≤ n → read_key ts ≡ Some (None, r)
    → converted (λ ms. of_members ms old) (json.members (value depth) n ts) ≡ Some (old, r)
members_over depth n ts r old enough ended = ap (converted (λ ms. of_members ms old)) (members_end (value depth) n ts r enough ended)

abbrev rest_of : Option (Members × List Token) → List Token
rest_of None = []
rest_of (Some p) = p.1

alone : (x : Option Members) (r : List Token) (ms : Members) → option_map {U = Members × List Token} (λ b. (b, r)) x ≡ Some (ms, [])
    → (x ≡ Some ms) × (r ≡ [])
alone None r ms e = absurd (cc)
alone (Some y) r ms e = (ap (option_map (λ p. p.0)) e, ap rest_of e)

whole_object : (o : Option (json.Members × List Token)) (ms : Members) → converted (λ js. of_members js no_members) o ≡ Some (ms, [])
    → option_and_then of_json (option_and_then (λ p. if_last p.0 p.1) (parse_map json.object o)) ≡ Some (object ms)
whole_object None ms e = absurd (cc)
whole_object (Some (js, r)) ms e =
    let both = alone (of_members js no_members) r ms e in
    rw both.1 (ap (option_map object) both.0)

-- a text that is an object, and nothing after it
pub object_read : (text : List ℕ) (ts : List Token) (ms : Members) → tokens text ≡ token.begin_object ∷ ts
    → converted (λ js. of_members js no_members) (json.members (value 126) (length ts) ts) ≡ Some (ms, []) → read text ≡ Some (object ms)
object_read text ts ms opened e =
    let outer : value 127 (tokens text) ≡ parse_map json.object (json.members (value 126) (length ts) ts) =
    ap (value 127) opened ∙ value-begin_object 127 ts (omega arith) in
    ap (λ o. option_and_then of_json (option_and_then (λ p. if_last p.0 p.1) o)) outer
    ∙ whole_object (json.members (value 126) (length ts) ts) ms e
