-- What the rule of a time zone says.
use Rattle.std.specs.Prelude.{Option, Some, None}
use Rattle.jiff_tz.specs.PosixText.{TzText, tz_view}
use Rattle.jiff_tz.specs.declared.timezone.TimeZone.{TimeZone}
use Rattle.jiff_tz.specs.declared.timezone.TimeZone.TheVariants.{Posix}

-- what a POSIX rule says; another zone has none
abbrev pub rule_text : TimeZone → Option TzText
rule_text (Posix rule) = Some (tz_view rule)
rule_text _ = None
