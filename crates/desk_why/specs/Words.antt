-- The words of the lines.
use Rattle.std.specs.Prelude.{ℕ, ◌==◌, if◌then◌else◌, List, [], ◌∷◌, codes, slice_get, unwrap_or}
use Rattle.points.specs.Texts.{Text}
use Rattle.jiff_core.specs.Date.{weekday_of}
use Rattle.jiff_core.specs.declared.civil.date.Date.{Date}

-- what the standard keeps a priority for (table 19-1)
abbrev pub use_of : ℕ → Text
use_of priority = if priority == 1 then codes "Manual-Life Safety"
    else (if priority == 2 then codes "Automatic-Life Safety"
    else (if priority == 5 then codes "Critical Equipment Control"
    else (if priority == 6 then codes "Minimum On/Off"
    else (if priority == 8 then codes "Manual Operator" else codes "Available"))))

-- from Monday on
abbrev pub weekday_titles : List Text
weekday_titles = codes "Monday" ∷ codes "Tuesday" ∷ codes "Wednesday" ∷ codes "Thursday" ∷ codes "Friday" ∷ codes "Saturday"
    ∷ codes "Sunday" ∷ []

abbrev pub title_at : ℕ → Text
title_at index = unwrap_or (slice_get weekday_titles index) []

abbrev pub title_of : Date → Text
title_of day = title_at (weekday_of day)
