-- The source of a value depends on calendars by whether they hold on the day alone.
use Rattle.std.proofs.Common.{◌≡◌, ℕ, ◌&&◌, ◌==◌, Bool, cond, List, is_some, option_and_then, option_map, slice_get}
use Rattle.std.proofs.Common.{ap, ◌∙◌}
use Rattle.std.specs.List.{position}
use Rattle.jiff_core.specs.declared.civil.date.Date.{Date}
use Rattle.sched.specs.declared.calendar.Calendar.{Calendar}
use Rattle.sched.specs.declared.exception.Exception.{Exception}
use Rattle.sched.specs.declared.exception.Period.{Period}
use Rattle.sched.specs.declared.exception.Period.TheVariants as period
use Rattle.sched.specs.declared.schedule.Schedule.{Schedule}
use Rattle.sched.specs.Calendar.{hold_on}
use Rattle.sched.proofs.HoldLemmas.{speaks-same}
use Rattle.sched.specs.Chosen.{chosen}
use Rattle.sched.specs.DayList.{list_value}
use Rattle.sched.specs.Exceptions.{exception_now, gives_way_to_lower}
use Rattle.sched.specs.Schedule.{weekday_list}
use Rattle.sched.specs.declared.source.Source.{Source}
use Rattle.sched.specs.declared.source.Source.TheVariants.{Exception as by_exception, Weekly, Default}
use Rattle.sched.specs.Sources.{source_of, source_or}

-- the source, of what speaks
abbrev source_by : Schedule → Date → ℕ → (Exception → Bool) → Source
source_by s day time test = source_or
    (option_and_then (λ i. option_map (λ (x : Exception). by_exception i x.period) (slice_get s.exceptions i))
    (option_and_then (λ (found : Exception). position (λ (x : Exception). test x && x.event_priority == found.event_priority) s.exceptions)
    (chosen test gives_way_to_lower s.exceptions)))
    (cond (is_some (list_value (weekday_list s day) time)) (Weekly day) Default)

pub source_of-same : (s : Schedule) (day : Date) (time : ℕ) (cs ds : List Calendar) → hold_on day cs ≡ hold_on day ds
    → source_of s cs day time ≡ source_of s ds day time
unfolding source_of exception_now
source_of-same s day time cs ds same = ap (source_by s day time) (speaks-same day time cs ds same)
