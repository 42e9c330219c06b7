-- The lines depend on calendars by the days on which they hold alone.
use Rattle.std.proofs.Common.{◌≡◌, ◌∙◌, ◌&&◌, ◌++◌, ℕ, List, [], Option, Some, None, cond, false, option_map, slice_get, refl, sym, ap}
use Rattle.std.proofs.Math.Path.{fun_ext}
use Rattle.std.proofs.lemmas.Option.{slice_get-map}
use Rattle.std.specs.List.{filter, flat_map, range_with_len}
use Rattle.std.specs.Option.{option_map_or}
use Rattle.jiff_core.specs.declared.civil.date.Date.{Date}
use Rattle.building.specs.Building.{Building}
use Rattle.building.specs.declared.named_schedule.NamedSchedule.{NamedSchedule}
use Rattle.dates.specs.declared.range.Range.{Range}
use Rattle.sched.specs.declared.calendar.Calendar.{Calendar}
use Rattle.sched.specs.declared.exception.Exception.{Exception}
use Rattle.sched.specs.declared.exception.Period.{Period}
use Rattle.sched.specs.declared.exception.Period.TheVariants as period
use Rattle.sched.specs.Calendar.{calendar_holds, hold_on}
use Rattle.sched.specs.Exceptions.{in_period}
use Rattle.sched.specs.Schedule.{is_active}
use Rattle.cli_days.specs.DayLines.{day_lines, days_text, lines_by_priority, schedule_lines}
use Rattle.cli_days.specs.RangeDays.{days_in}
use Rattle.cli_days.specs.Speaking.{speaking}
use Rattle.cli_days.specs.TimeValues.{has_value, named_times}

holds-mapped : (day : Date) (calendar : Option Calendar)
    → option_map_or (λ c. calendar_holds c day) calendar false
    ≡ option_map_or (λ b. b) (option_map (λ c. calendar_holds c day) calendar) false
holds-mapped day None = refl
holds-mapped day (Some calendar) = refl

holds_at : (day : Date) (calendars : List Calendar) (index : ℕ)
    → option_map_or (λ c. calendar_holds c day) (slice_get calendars index) false
    ≡ option_map_or (λ b. b) (slice_get (hold_on day calendars) index) false
holds_at day calendars index =
    holds-mapped day (slice_get calendars index)
    ∙ ap (λ o. option_map_or (λ b. b) o false) (sym (slice_get-map (λ c. calendar_holds c day) calendars index))

in_period-same : (day : Date) (cs ds : List Calendar) → hold_on day cs ≡ hold_on day ds → (p : Period)
    → in_period cs day p ≡ in_period ds day p
in_period-same day cs ds same (period.Entry entry) = refl
in_period-same day cs ds same (period.Calendar id) =
    holds_at day cs id.index ∙ (ap (λ bs. option_map_or (λ b. b) (slice_get bs id.index) false) same ∙ sym (holds_at day ds id.index))

speaking-same : (day : Date) (cs ds : List Calendar) (exceptions : List Exception) → hold_on day cs ≡ hold_on day ds
    → speaking cs day exceptions ≡ speaking ds day exceptions
unfolding speaking
speaking-same day cs ds exceptions same =
    ap (λ (speaks : Exception → Rattle.std.proofs.Common.Bool).
    filter (λ index. option_map_or speaks (slice_get exceptions index) false) (range_with_len 0 (Rattle.std.proofs.Common.length exceptions)))
    (fun_ext (λ (x : Exception). ap (λ b. b && has_value x.times (named_times x.times)) (in_period-same day cs ds same x.period)))

schedule_lines-same : (building : Building) (day : Date) (cs ds : List Calendar) (s : NamedSchedule) → hold_on day cs ≡ hold_on day ds
    → schedule_lines building cs day s ≡ schedule_lines building ds day s
unfolding schedule_lines
schedule_lines-same building day cs ds s same =
    ap (λ indices. cond (is_active s.schedule day) (lines_by_priority building day s indices) [])
    (speaking-same day cs ds s.schedule.exceptions same)

pub day_lines-same : (building : Building) (day : Date) (cs ds : List Calendar) → hold_on day cs ≡ hold_on day ds
    → day_lines building cs day ≡ day_lines building ds day
unfolding day_lines
day_lines-same building day cs ds same =
    ap (λ (lines : NamedSchedule → List ℕ). flat_map lines building.schedules)
    (fun_ext (λ (s : NamedSchedule). schedule_lines-same building day cs ds s same))

pub days_text-same : (building : Building) (cs ds : List Calendar) (range : Range) → ((day : Date) → hold_on day cs ≡ hold_on day ds)
    → days_text building cs range ≡ days_text building ds range
days_text-same building cs ds range same =
    ap (λ (lines : Date → List ℕ). flat_map lines (days_in range))
    (fun_ext (λ (day : Date). day_lines-same building day cs ds (same day)))
