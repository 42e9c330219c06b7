-- The length of a body, as the fields of a request's head tell it.
use Rattle.std.specs.Prelude.{ℕ, Bool, ◌&&◌, nat_le, nat_lt, if◌then◌else◌, codes, length, map}
use Rattle.std.specs.Prelude.{List, [], ◌∷◌, Option, None, Some}
use Rattle.std.specs.Char.{is_ascii_digit}
use Rattle.std.specs.List.{filter, list_all}
use Rattle.std.specs.Str.{str_eq_ignore_ascii_case}
use Rattle.std.specs.Str.Parse.{digits_value}
use Rattle.httparse.specs.Grammar.{RequestHead}
use Rattle.httparse.specs.Spans.{name_and_value}
use Rattle.points.specs.Texts.{Text}

-- the values of the fields of a name, without regard to case
abbrev pub values_of : Text → List (Text × Text) → List Text
values_of name fields = map (λ f. f.1) (filter (λ f. str_eq_ignore_ascii_case f.0 name) fields)

-- 1 to 9 digits
abbrev pub is_number : Text → Bool
is_number value = nat_lt 0 (length value) && (nat_le (length value) 9 && list_all is_ascii_digit value)

-- the number that they write
abbrev pub number_in : Text → Option ℕ
number_in value = if is_number value then Some (digits_value 10 value) else None

-- the length that the values of the Content-Length fields tell
abbrev pub length_in : List Text → Option ℕ
length_in [] = Some 0
length_in (value ∷ []) = number_in value
length_in (value ∷ other ∷ more) = None

-- a length is said by no other coding of the body
abbrev pub unless_coded : List Text → Option ℕ → Option ℕ
unless_coded [] reported = reported
unless_coded (coding ∷ more) reported = None

-- the length of the body that fields tell, by their names and values
abbrev pub body_length : List (Text × Text) → Option ℕ
body_length fields =
    unless_coded (values_of (codes "transfer-encoding") fields) (length_in (values_of (codes "content-length") fields))

-- the same of a head
abbrev pub body_length_of : RequestHead → Option ℕ
body_length_of head = body_length (map name_and_value head.fields)

-- what the values of one name come to: none, one, or more than one
abbrev pub only : List Text → Option (Option Text)
only [] = Some None
only (value ∷ []) = Some (Some value)
only (value ∷ other ∷ more) = None
