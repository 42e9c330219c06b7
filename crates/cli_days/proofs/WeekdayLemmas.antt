-- The name of a weekday is that at its place from Monday on.
use Rattle.std.proofs.Common.{◌≡◌, [], refl, slice_get, unwrap_or}
use Rattle.jiff_core.specs.declared.civil.weekday.Weekday.{Weekday}
use Rattle.jiff_core.specs.declared.civil.weekday.Weekday.TheVariants.{Monday, Tuesday, Wednesday, Thursday, Friday, Saturday, Sunday}
use Rattle.jiff_core.specs.Weekday.{monday_zero}
use Rattle.dates.specs.Weekday.{weekday_text}
use Rattle.cli_days.specs.Words.{weekday_names}

pub named_weekday : (weekday : Weekday) → weekday_text weekday ≡ unwrap_or (slice_get weekday_names (monday_zero weekday)) []
named_weekday Monday = refl
named_weekday Tuesday = refl
named_weekday Wednesday = refl
named_weekday Thursday = refl
named_weekday Friday = refl
named_weekday Saturday = refl
named_weekday Sunday = refl
