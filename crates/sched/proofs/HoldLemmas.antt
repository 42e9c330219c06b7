-- Which exceptions speak depends on calendars by whether they hold on the day alone.
use Rattle.std.proofs.Common.{◌≡◌, ◌∙◌, ◌&&◌, ℕ, List, Option, Some, None, is_some, false, option_map, slice_get, refl, sym, ap}
use Rattle.std.proofs.Math.Path.{fun_ext}
use Rattle.std.proofs.lemmas.Option.{slice_get-map}
use Rattle.std.specs.Option.{option_map_or}
use Rattle.jiff_core.specs.declared.civil.date.Date.{Date}
use Rattle.sched.specs.declared.calendar.Calendar.{Calendar}
use Rattle.sched.specs.declared.exception.Exception.{Exception}
use Rattle.sched.specs.declared.exception.Period.{Period}
use Rattle.sched.specs.declared.exception.Period.TheVariants as period
use Rattle.sched.specs.Calendar.{calendar_holds, hold_on}
use Rattle.sched.specs.DayList.{list_value}
use Rattle.sched.specs.Exceptions.{in_period, speaks}

holds-mapped : (day : Date) (calendar : Option Calendar)
    → option_map_or (λ c. calendar_holds c day) calendar false
    ≡ option_map_or (λ b. b) (option_map (λ c. calendar_holds c day) calendar) false
holds-mapped day None = refl
holds-mapped day (Some calendar) = refl

holds_at : (day : Date) (calendars : List Calendar) (index : ℕ)
    → option_map_or (λ c. calendar_holds c day) (slice_get calendars index) false
    ≡ option_map_or (λ b. b) (slice_get (hold_on day calendars) index) false
holds_at day calendars index =
    holds-mapped day (slice_get calendars index)
    ∙ ap (λ o. option_map_or (λ b. b) o false) (sym (slice_get-map (λ c. calendar_holds c day) calendars index))

in_period-same : (day : Date) (cs ds : List Calendar) → hold_on day cs ≡ hold_on day ds → (p : Period)
    → in_period cs day p ≡ in_period ds day p
in_period-same day cs ds same (period.Entry entry) = refl
in_period-same day cs ds same (period.Calendar id) =
    holds_at day cs id.index ∙ (ap (λ bs. option_map_or (λ b. b) (slice_get bs id.index) false) same ∙ sym (holds_at day ds id.index))

pub speaks-same : (day : Date) (time : ℕ) (cs ds : List Calendar) → hold_on day cs ≡ hold_on day ds → speaks cs day time ≡ speaks ds day time
speaks-same day time cs ds same = fun_ext (λ (x : Exception).
    ap (λ b. b && is_some (list_value x.times time)) (in_period-same day cs ds same x.period))
