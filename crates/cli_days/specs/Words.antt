-- How a value and a weekday are told.
use Rattle.std.specs.Prelude.{ℤ, List, ◌∷◌, [], codes, slice_get, unwrap_or, Option, Some, None}
use Rattle.std.specs.Fmt.{signed_decimal}
use Rattle.jiff_core.specs.Date.{weekday_of}
use Rattle.jiff_core.specs.declared.civil.date.Date.{Date}
use Rattle.points.specs.Texts.{Text}

abbrev pub value_text : Option ℤ → Text
value_text None = codes "NULL"
value_text (Some value) = signed_decimal value

-- from Monday on
abbrev pub weekday_names : List Text
weekday_names = codes "mon" ∷ codes "tue" ∷ codes "wed" ∷ codes "thu" ∷ codes "fri" ∷ codes "sat" ∷ codes "sun" ∷ []

abbrev pub weekday_name : Date → Text
weekday_name day = unwrap_or (slice_get weekday_names (weekday_of day)) []
