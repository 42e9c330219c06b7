-- What schedules say depends on calendars by whether they hold today alone.
use Rattle.std.proofs.Common.{◌≡◌, ℕ, ◌&&◌, not, cond, List, [], ◌∷◌, ◌++◌}
use Rattle.std.proofs.Common.{Some, None, is_some, option_and_then, refl, ap, ◌∙◌}
use Rattle.std.proofs.Math.Path.{fun_ext}
use Rattle.std.specs.List.{flat_map}
use Rattle.jiff_core.specs.declared.civil.date.Date.{Date}
use Rattle.local_times.specs.declared.local_clock.LocalTime.{LocalTime}
use Rattle.sched.specs.declared.calendar.Calendar.{Calendar}
use Rattle.sched.specs.declared.exception.Exception.{Exception}
use Rattle.sched.specs.declared.exception.Period.{Period}
use Rattle.sched.specs.declared.exception.Period.TheVariants as period
use Rattle.sched.specs.declared.schedule.Schedule.{Schedule}
use Rattle.sched.specs.Calendar.{hold_on}
use Rattle.sched.proofs.HoldLemmas.{speaks-same}
use Rattle.sched.specs.Chosen.{chosen}
use Rattle.sched.specs.DayList.{list_value}
use Rattle.sched.specs.Exceptions.{exception_now, gives_way_to_lower}
use Rattle.sched.specs.Schedule.{first_value, schedule_value, weekday_list}
use Rattle.building.specs.declared.named_schedule.NamedSchedule.{NamedSchedule}
use Rattle.store.specs.declared.change.PlaceValue.{PlaceValue}
use Rattle.store.specs.declared.change.ShownValue.{ShownValue}
use Rattle.desk_settling.specs.Settled.{Shown, at_each_target, cleared_by, falls_quiet, is_active_now, is_due}
use Rattle.desk_settling.specs.Settled.{put_by, shown_by, shows, changes_shown, value_of, written}
use Rattle.desk_settling.specs.Turns.{now_at}

pub schedule_value-same : (day : Date) (time : ℕ) (cs ds : List Calendar) (s : Schedule) → hold_on day cs ≡ hold_on day ds
    → schedule_value s cs day time ≡ schedule_value s ds day time
unfolding schedule_value exception_now
schedule_value-same day time cs ds s same =
    ap (λ test. first_value (option_and_then (λ (x : Exception). list_value x.times time) (chosen test gives_way_to_lower s.exceptions))
    (first_value (list_value (weekday_list s day) time) s.default)) (speaks-same day time cs ds same)

value_of-same : (cs ds : List Calendar) (local : LocalTime) → hold_on local.day cs ≡ hold_on local.day ds → (s : NamedSchedule)
    → value_of (now_at cs local) s ≡ value_of (now_at ds local) s
value_of-same cs ds local same s = schedule_value-same local.day local.time cs ds s.schedule same

put_by-same : (cs ds : List Calendar) (local : LocalTime) (shown : Shown) → hold_on local.day cs ≡ hold_on local.day ds
    → put_by (now_at cs local) shown ≡ put_by (now_at ds local) shown
unfolding is_due
put_by-same cs ds local shown same = fun_ext (λ (s : NamedSchedule).
    ap (λ value. cond (is_active_now (now_at cs local) s && not (shows (shown s.name) value)) (at_each_target value s) [])
    (value_of-same cs ds local same s))

shown_by-same : (cs ds : List Calendar) (local : LocalTime) (shown : Shown) → hold_on local.day cs ≡ hold_on local.day ds
    → shown_by (now_at cs local) shown ≡ shown_by (now_at ds local) shown
unfolding is_due falls_quiet
shown_by-same cs ds local shown same = fun_ext (λ (s : NamedSchedule).
    ap (λ value. cond (is_active_now (now_at cs local) s && not (shows (shown s.name) value))
    (record { schedule = s.name; shown = Some value } ∷ [])
    (cond (not (is_active_now (now_at cs local) s) && is_some (shown s.name)) (record { schedule = s.name; shown = None } ∷ []) []))
    (value_of-same cs ds local same s))

cleared_by-same : (cs ds : List Calendar) (local : LocalTime) (shown : Shown)
    → cleared_by (now_at cs local) shown ≡ cleared_by (now_at ds local) shown
unfolding falls_quiet
cleared_by-same cs ds local shown = refl

pub written-same : (cs ds : List Calendar) (local : LocalTime) (shown : Shown) (schedules : List NamedSchedule)
    → hold_on local.day cs ≡ hold_on local.day ds → written (now_at cs local) shown schedules ≡ written (now_at ds local) shown schedules
unfolding written
written-same cs ds local shown schedules same =
    λ i. flat_map (cleared_by-same cs ds local shown i) schedules ++ flat_map (put_by-same cs ds local shown same i) schedules

pub reported-same : (cs ds : List Calendar) (local : LocalTime) (shown : Shown) (schedules : List NamedSchedule)
    → hold_on local.day cs ≡ hold_on local.day ds → changes_shown (now_at cs local) shown schedules ≡ changes_shown (now_at ds local) shown schedules
unfolding changes_shown
reported-same cs ds local shown schedules same = λ i. flat_map (shown_by-same cs ds local shown same i) schedules

-- what is cleared and then put, where other calendars hold on the same days
pub settled-places : (cs ds : List Calendar) (local : LocalTime) (shown : Shown) (schedules : List NamedSchedule)
    (places cleared put : List PlaceValue) → hold_on local.day cs ≡ hold_on local.day ds → places ≡ cleared ++ put
    → cleared ≡ flat_map (cleared_by (now_at cs local) shown) schedules
    → put ≡ flat_map (put_by (now_at cs local) shown) schedules → places ≡ written (now_at ds local) shown schedules
unfolding written
settled-places cs ds local shown schedules places cleared put same joins clears puts =
    joins ∙ ((λ i. clears i ++ puts i) ∙ written-same cs ds local shown schedules same)

pub settled-shown : (cs ds : List Calendar) (local : LocalTime) (shown : Shown) (schedules : List NamedSchedule) (items : List ShownValue)
    → hold_on local.day cs ≡ hold_on local.day ds → items ≡ flat_map (shown_by (now_at cs local) shown) schedules
    → items ≡ changes_shown (now_at ds local) shown schedules
unfolding changes_shown
settled-shown cs ds local shown schedules items same shows_them = shows_them ∙ reported-same cs ds local shown schedules same
