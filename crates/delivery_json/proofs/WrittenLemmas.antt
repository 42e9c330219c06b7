-- A line in the form in which a delivery is written is read as that delivery.
use Rattle.std.proofs.Common.{◌≡◌, ◌∙◌, ℕ, ℤ, pos, negsuc, ◌^◌, ◌<◌, ◌≤◌, ◌&&◌, Bool, true, List, [], ◌∷◌, ◌++◌, Option, Some, None, codes, length, nat_lt, nat_le, IfSome, option_and_then, option_map, refl, sym, ap, arith, append_assoc, append-nil, lt-ltb}
use Rattle.std.proofs.lemmas.Bool.Decides.{nat_tests}
use Rattle.std.specs.Fmt.{signed_decimal}
use Rattle.std.specs.List.{list_all}
use Rattle.std.specs.Int.Signed.{mag}
use Rattle.json.specs.Print.{escape, escape_byte}
use Rattle.json.specs.Json as json
use Rattle.json.specs.Lex.{tokens}
use Rattle.json.specs.Tree.{json_tokens, HasNumbers, depth}
use Rattle.json.proofs.Printed.Decimals.{IsNumber-signed_decimal}
use Rattle.json.proofs.Printed.Strings.{escape_byte_plain}
use Rattle.json.proofs.Printed.Tokens.{tokens-print}
use Rattle.json.proofs.Printed.Trees.{ArePrintable-json_tokens, value-json_tokens}
use Rattle.serde_json.specs.Data.{Data, Members, member, no_members, null, number, object, string}
use Rattle.serde_json.specs.Find.{as_i64, of_integer}
use Rattle.serde_json.specs.Read.{number_of, of_json, read, max_depth}
use Rattle.serde_json.specs.Written.{compact_text, members_text, number_text, outline}
use Rattle.serde_json.proofs.Numbers.{number_of-decimal, number_of-negative}
use Rattle.serde_json.proofs.Texts.{print-outline}
use Rattle.points.specs.Name.{IsName, is_name_byte}
use Rattle.points.specs.Texts.{text_of}
use Rattle.points.specs.declared.content.Content.{Content}
use Rattle.deliveries.specs.declared.delivery.Delivery.TheVariants.{Command, Skip, Tick}
use Rattle.delivery_json.specs.ClockLine.{tick_in}
use Rattle.delivery_json.specs.CommandMembers.{IsBody}
use Rattle.delivery_json.specs.DeliveryLine.{delivery_in, json_of}
use Rattle.delivery_json.specs.Members.{lone_integer}
use Rattle.delivery_json.specs.PanelLine.{command_body_in, command_in, panel_delivery_in, skip_in, value_in}
use Rattle.delivery_json.proofs.UsualLemmas.{read_delivery}
use Rattle.delivery_json.specs.DeliveryText.{content_text, value_text}

-- ---- the pieces of a text, put together

pub content_pieces : (text a b c d e : List ℕ) (content : Content) → text ≡ codes "\"point\":\"" ++ a → a ≡ content.point ++ b
    → b ≡ codes "\",\"priority\":" ++ c → c ≡ signed_decimal content.priority ++ d → d ≡ codes ",\"value\":" ++ e
    → e ≡ value_text content.value ++ codes "}"
    → text ≡ content_text content ++ codes "}"
unfolding content_text
content_pieces text a b c d e content f g h i j k = rw (f, g, h, i, j, k) (simp append_assoc)

pub line_pieces : (line a b c d e panel : List ℕ) (n : ℤ) (content : Content) → line ≡ codes "{\"number\":" ++ a
    → a ≡ signed_decimal n ++ b → b ≡ codes ",\"panel\":\"" ++ c → c ≡ panel ++ d → d ≡ codes "\"," ++ e
    → e ≡ content_text content ++ codes "}"
    → line ≡ codes "{\"number\":" ++ (signed_decimal n ++ (codes ",\"panel\":\"" ++ (panel ++ (codes "\"," ++ (content_text content ++ codes "}")))))
line_pieces line a b c d e panel n content f g h i j k = rw (f, g, h, i, j, k) refl

pub body_pieces : (body a b c : List ℕ) (n : ℤ) (content : Content) → body ≡ codes "{\"number\":" ++ a
    → a ≡ signed_decimal n ++ b → b ≡ codes "," ++ c → c ≡ content_text content ++ codes "}"
    → body ≡ codes "{\"number\":" ++ (signed_decimal n ++ (codes "," ++ (content_text content ++ codes "}")))
body_pieces body a b c n content f g h i = rw (f, g, h, i) refl

pub skip_pieces : (line a b c panel : List ℕ) (n : ℤ) → line ≡ codes "{\"panel\":\"" ++ a → a ≡ panel ++ b
    → b ≡ codes "\",\"skip\":" ++ c → c ≡ signed_decimal n ++ codes "}"
    → line ≡ codes "{\"panel\":\"" ++ (panel ++ (codes "\",\"skip\":" ++ (signed_decimal n ++ codes "}")))
skip_pieces line a b c panel n f g h i = rw (f, g, h, i) refl

-- ---- a name has nothing to escape

is_plain-name_byte : (byte : ℕ) → is_name_byte byte ≡ true → (byte ≡ 34 → ⊥) × (byte ≡ 92 → ⊥) × (32 ≤ byte)
is_plain-name_byte byte passes = (λ e. grind (arith, nat_tests), λ e. grind (arith, nat_tests), grind (arith, nat_tests))

parted : (a b : Bool) → (a && b) ≡ true → (a ≡ true) × (b ≡ true)
parted a b all = (grind arith, grind arith)

escape-each : (text : List ℕ) → list_all is_name_byte text ≡ true → escape text ≡ text
escape-each [] all = refl
escape-each (byte ∷ text) all =
    let parts = parted (is_name_byte byte) (list_all is_name_byte text) all in
    let plain = is_plain-name_byte byte parts.0 in
    rw (escape_byte_plain byte plain.0 plain.1 plain.2) (ap (λ l. byte ∷ l) (escape-each text parts.1))

escape-name : (text : List ℕ) → IsName text → escape text ≡ text
escape-name text named =
    escape-each text (parted (nat_lt 0 (length text) && nat_le (length text) 32) (list_all is_name_byte text) named).1

-- ---- a number

number_text-of : (z : ℤ) → number_text (of_integer z) ≡ signed_decimal z
number_text-of (pos n) = refl
number_text-of (negsuc n) = refl

number_of-signed : (z : ℤ) → mag z < 2 ^ 63 → number_of (signed_decimal z) ≡ Some (of_integer z)
number_of-signed (pos n) h = number_of-decimal n (omega (arith, h))
number_of-signed (negsuc n) h = number_of-negative n h

as_i64-of : (z : ℤ) → mag z < 2 ^ 63 → as_i64 (of_integer z) ≡ Some z
as_i64-of (pos n) h = rw (lt-ltb n (2 ^ 63) h) refl
as_i64-of (negsuc n) h = refl

-- ---- the members

abbrev value_data : Option ℤ → Data
value_data None = null
value_data (Some z) = number (of_integer z)

abbrev content_members : Content → Members
content_members content = member (codes "point") (string content.point)
    (member (codes "priority") (number (of_integer content.priority))
    (member (codes "value") (value_data content.value) no_members))

value_text-is : (value : Option ℤ) → compact_text (value_data value) ++ codes "}" ≡ value_text value ++ codes "}"
value_text-is None = refl
value_text-is (Some (pos n)) = refl
value_text-is (Some (negsuc n)) = refl

content_text-is : (content : Content) → IsName content.point
    → members_text true (content_members content) ≡ 44 ∷ (content_text content ++ codes "}")
unfolding escape_byte
content_text-is content named =
    let value = value_text content.value ++ codes "}" in
    let after_priority = codes ",\"value\":" ++ value in
    let priority = signed_decimal content.priority ++ after_priority in
    let after_point = codes "\",\"priority\":" ++ priority in
    let point = content.point ++ after_point in
    rw (escape-name content.point named, number_text-of content.priority, value_text-is content.value)
    (ap (λ l. codes ",\"point\":\"" ++ l) (append_assoc content.point (codes "\"") (codes ",\"priority\":" ++ priority))
    ∙ ap (λ l. 44 ∷ l) (content_pieces (codes "\"point\":\"" ++ point) point after_point priority after_priority value content refl refl refl refl refl refl))

-- ---- the objects of a line and of a body, and their texts

abbrev numbered_members : ℤ → Members → Members
numbered_members n ms = member (codes "number") (number (of_integer n)) ms

abbrev line_members : List ℕ → ℤ → Content → Members
line_members panel n content = numbered_members n (member (codes "panel") (string panel) (content_members content))

abbrev body_members : ℤ → Content → Members
body_members n content = numbered_members n (content_members content)

body_text-is : (n : ℤ) (content : Content) → IsName content.point
    → compact_text (object (body_members n content))
    ≡ codes "{\"number\":" ++ (signed_decimal n ++ (codes "," ++ (content_text content ++ codes "}")))
unfolding escape_byte
body_text-is n content named = rw (number_text-of n) (ap (λ l. codes "{\"number\":" ++ (signed_decimal n ++ l)) (content_text-is content named))

line_text-is : (panel : List ℕ) (n : ℤ) (content : Content) → IsName panel → IsName content.point
    → compact_text (object (line_members panel n content))
    ≡ codes "{\"number\":" ++ (signed_decimal n ++ (codes ",\"panel\":\"" ++ (panel ++ (codes "\"," ++ (content_text content ++ codes "}")))))
unfolding escape_byte
line_text-is panel n content named point_named =
    rw (number_text-of n, escape-name panel named)
    (ap (λ l. codes "{\"number\":" ++ (signed_decimal n ++ (codes ",\"panel\":\"" ++ l)))
    (append_assoc panel (codes "\"") (members_text true (content_members content))
    ∙ ap (λ l. panel ++ (34 ∷ l)) (content_text-is content point_named)))

abbrev skip_members : List ℕ → ℤ → Members
skip_members panel n = member (codes "panel") (string panel) (member (codes "skip") (number (of_integer n)) no_members)

abbrev tick_members : ℤ → Members
tick_members n = member (codes "tick") (number (of_integer n)) no_members

skip_text-is : (panel : List ℕ) (n : ℤ) → IsName panel
    → compact_text (object (skip_members panel n))
    ≡ codes "{\"panel\":\"" ++ (panel ++ (codes "\",\"skip\":" ++ (signed_decimal n ++ codes "}")))
unfolding escape_byte
skip_text-is panel n named =
    rw (number_text-of n, escape-name panel named)
    (ap (λ l. codes "{\"panel\":\"" ++ l)
    (append_assoc panel (codes "\"") (codes ",\"skip\":" ++ (signed_decimal n ++ codes "}"))))

tick_text-is : (n : ℤ) → compact_text (object (tick_members n)) ≡ codes "{\"tick\":" ++ (signed_decimal n ++ codes "}")
unfolding escape_byte
tick_text-is n = rw (number_text-of n) refl

-- ---- each is read as it is

abbrev Has64Bits : ℤ → Type 0
Has64Bits z = mag z < 2 ^ 63

abbrev Have64Bits : Content → Type 0
Have64Bits content = Has64Bits content.priority × IfSome content.value Has64Bits

number_json : (z : ℤ) → Has64Bits z → of_json (outline (number (of_integer z))) ≡ Some (number (of_integer z))
number_json z h = ap (option_map number) (ap number_of (number_text-of z) ∙ number_of-signed z h)

value_json : (value : Option ℤ) → IfSome value Has64Bits → of_json (outline (value_data value)) ≡ Some (value_data value)
value_json None h = refl
value_json (Some z) h = number_json z h

number_is : (z : ℤ) → Has64Bits z → HasNumbers (outline (number (of_integer z)))
number_is (pos n) h = IsNumber-signed_decimal (pos n) h
number_is (negsuc n) h = IsNumber-signed_decimal (negsuc n) h

value_is : (value : Option ℤ) → IfSome value Has64Bits → HasNumbers (outline (value_data value))
value_is None h = tt
value_is (Some z) h = number_is z h

value_depth : (value : Option ℤ) → depth (outline (value_data value)) ≡ 0
value_depth None = refl
value_depth (Some z) = refl

object_read : (text : List ℕ) (ms : Members) → text ≡ compact_text (object ms) → HasNumbers (outline (object ms))
    → depth (outline (object ms)) ≤ max_depth → of_json (outline (object ms)) ≡ Some (object ms) → read text ≡ Some (object ms)
object_read text ms same numbers shallow back =
    let j = outline (object ms) in
    let written : tokens text ≡ json_tokens j ++ [] =
    ap tokens (same ∙ sym (print-outline (object ms))) ∙ tokens-print (json_tokens j) (ArePrintable-json_tokens j numbers)
    ∙ sym (append-nil (json_tokens j)) in
    ap (λ o. option_and_then of_json (option_and_then (λ p. json.if_last p.0 p.1) o))
    (ap (json.value max_depth) written ∙ value-json_tokens j max_depth [] shallow) ∙ back

body_read : (text : List ℕ) (n : ℤ) (content : Content) → IsName content.point → Has64Bits n → Have64Bits content
    → text ≡ codes "{\"number\":" ++ (signed_decimal n ++ (codes "," ++ (content_text content ++ codes "}")))
    → read text ≡ Some (object (body_members n content))
body_read text n content named fits all same =
    object_read text (body_members n content) (same ∙ sym (body_text-is n content named))
    (number_is n fits, (tt, (number_is content.priority all.0, (value_is content.value all.1, tt))))
    (rw (value_depth content.value) (omega arith))
    (rw (number_json n fits, number_json content.priority all.0, value_json content.value all.1) refl)

line_read : (text panel : List ℕ) (n : ℤ) (content : Content) → IsName panel → IsName content.point → Has64Bits n → Have64Bits content
    → text ≡ codes "{\"number\":" ++ (signed_decimal n ++ (codes ",\"panel\":\"" ++ (panel ++ (codes "\"," ++ (content_text content ++ codes "}")))))
    → read text ≡ Some (object (line_members panel n content))
line_read text panel n content named point_named fits all same =
    object_read text (line_members panel n content) (same ∙ sym (line_text-is panel n content named point_named))
    (number_is n fits, (tt, (tt, (number_is content.priority all.0, (value_is content.value all.1, tt)))))
    (rw (value_depth content.value) (omega arith))
    (rw (number_json n fits, number_json content.priority all.0, value_json content.value all.1) refl)

skip_read : (text panel : List ℕ) (n : ℤ) → IsName panel → Has64Bits n
    → text ≡ codes "{\"panel\":\"" ++ (panel ++ (codes "\",\"skip\":" ++ (signed_decimal n ++ codes "}")))
    → read text ≡ Some (object (skip_members panel n))
skip_read text panel n named fits same =
    object_read text (skip_members panel n) (same ∙ sym (skip_text-is panel n named)) (tt, (number_is n fits, tt)) (omega arith)
    (rw (number_json n fits) refl)

tick_read : (text : List ℕ) (n : ℤ) → Has64Bits n → text ≡ codes "{\"tick\":" ++ (signed_decimal n ++ codes "}")
    → read text ≡ Some (object (tick_members n))
tick_read text n fits same =
    object_read text (tick_members n) (same ∙ sym (tick_text-is n)) (number_is n fits, tt) (omega arith) (rw (number_json n fits) refl)

-- ---- what they tell

value_told : (value : Option ℤ) → IfSome value Has64Bits → value_in (value_data value) ≡ Some value
value_told None h = refl
value_told (Some z) h = rw (as_i64-of z h) refl

body_told : (n : ℤ) (content : Content) → IsName content.point → Has64Bits n → Have64Bits content
    → command_body_in (object (body_members n content)) ≡ Some (record { number = n; content = content })
unfolding command_body_in
body_told n content named fits all = rw (as_i64-of n fits, named, as_i64-of content.priority all.0, value_told content.value all.1) refl

line_told : (panel : List ℕ) (n : ℤ) (content : Content) → IsName panel → IsName content.point → Has64Bits n → Have64Bits content
    → delivery_in (object (line_members panel n content)) ≡ Some (Command panel n content)
unfolding delivery_in panel_delivery_in command_in command_body_in
line_told panel n content named point_named fits all =
    rw (named, as_i64-of n fits, point_named, as_i64-of content.priority all.0, value_told content.value all.1) refl

skip_told : (panel : List ℕ) (n : ℤ) → IsName panel → Has64Bits n
    → delivery_in (object (skip_members panel n)) ≡ Some (Skip panel n)
unfolding delivery_in panel_delivery_in skip_in
skip_told panel n named fits = rw (named, as_i64-of n fits) refl

tick_told : (n : ℤ) → Has64Bits n → delivery_in (object (tick_members n)) ≡ Some (Tick n)
unfolding delivery_in tick_in lone_integer
tick_told n fits = rw (as_i64-of n fits) refl

pub written_command : (line panel : List ℕ) (n : ℤ) (content : Content) → IsName panel → IsName content.point → Has64Bits n
    → Have64Bits content → text_of line ≡ Some line
    → line ≡ codes "{\"number\":" ++ (signed_decimal n ++ (codes ",\"panel\":\"" ++ (panel ++ (codes "\"," ++ (content_text content ++ codes "}")))))
    → option_and_then delivery_in (json_of line) ≡ Some (Command panel n content)
written_command line panel n content named point_named fits all is_text same =
    read_delivery line line (object (line_members panel n content)) (Command panel n content) is_text
    (line_read line panel n content named point_named fits all same) (line_told panel n content named point_named fits all)

pub written_skip : (line panel : List ℕ) (n : ℤ) → IsName panel → Has64Bits n → text_of line ≡ Some line
    → line ≡ codes "{\"panel\":\"" ++ (panel ++ (codes "\",\"skip\":" ++ (signed_decimal n ++ codes "}")))
    → option_and_then delivery_in (json_of line) ≡ Some (Skip panel n)
written_skip line panel n named fits is_text same =
    read_delivery line line (object (skip_members panel n)) (Skip panel n) is_text
    (skip_read line panel n named fits same) (skip_told panel n named fits)

pub written_tick : (line : List ℕ) (n : ℤ) → Has64Bits n → text_of line ≡ Some line → line ≡ codes "{\"tick\":" ++ (signed_decimal n ++ codes "}")
    → option_and_then delivery_in (json_of line) ≡ Some (Tick n)
written_tick line n fits is_text same =
    read_delivery line line (object (tick_members n)) (Tick n) is_text (tick_read line n fits same) (tick_told n fits)

pub written_object : (body : List ℕ) (n : ℤ) (content : Content) → IsName content.point → Has64Bits n → Have64Bits content
    → text_of body ≡ Some body
    → body ≡ codes "{\"number\":" ++ (signed_decimal n ++ (codes "," ++ (content_text content ++ codes "}")))
    → IsBody (json_of body) (record { number = n; content = content })
written_object body n content named fits all is_text same = (
  body_members n content,
  ap (λ o. option_and_then read o) is_text ∙ body_read body n content named fits all same,
  body_told n content named fits all,
  refl,
)
