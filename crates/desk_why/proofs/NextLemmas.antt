-- The next changes depend on calendars by whether they hold today alone, and on a store by what it holds of the list.
use Rattle.std.proofs.Common.{◌≡◌, ℕ, ℤ, cond, List, [], ◌∷◌, ◌++◌, Option, Some, None, option_map, sym, ap, ap₂, ◌∙◌}
use Rattle.std.specs.List.{cons_option, filter_map}
use Rattle.std.specs.Option.{MatchOption}
use Rattle.std.proofs.Math.Path.{fun_ext}
use Rattle.std.proofs.lemmas.List.Elements.{filter_map-append}
use Rattle.building.specs.Building.{Building}
use Rattle.building.specs.declared.named_schedule.NamedSchedule.{NamedSchedule}
use Rattle.desk_clock.proofs.ClockedLemmas.{Tells-held}
use Rattle.deliveries.specs.declared.delivery.Delivery.{Delivery}
use Rattle.deliveries.specs.Delivered.{Holds}
use Rattle.deliveries.specs.Events.{machine}
use Rattle.deliveries.specs.Machine.{local_of}
use Rattle.deliveries.proofs.ClockLemmas.{with_items-none}
use Rattle.jiff_core.specs.declared.civil.date.Date.{Date}
use Rattle.local_times.specs.declared.local_clock.LocalTime.{LocalTime}
use Rattle.sched.specs.declared.calendar.Calendar.{Calendar}
use Rattle.sched.specs.declared.day_list.TimeValue.{TimeValue}
use Rattle.sched.specs.declared.schedule.Schedule.{Schedule}
use Rattle.sched.specs.Segments.{segments_of}
use Rattle.desk_settling.specs.Calendars.{Tells, calendars_of, with_items}
use Rattle.sched.specs.Calendar.{hold_on}
use Rattle.desk_settling.specs.Turns.{now_at}
use Rattle.desk_settling.proofs.ValueLemmas.{schedule_value-same}
use Rattle.store.specs.Standing.{Standing}
use Rattle.points.specs.Texts.{Text}
use Rattle.sched.specs.declared.source.Source.{Source}
use Rattle.sched.specs.declared.changes.NextChange.{NextChange}
use Rattle.sched.specs.NextChange.{first_after, next_change}
use Rattle.sched.proofs.SameLemmas.{source_of-same}
use Rattle.desk_why.specs.declared.scheduled.ScheduledChange.{ScheduledChange}
use Rattle.desk_why.specs.NextChanges.{change_at, changes_at, next_changes, targets_point}
use Rattle.desk_why.proofs.SettleLemmas.{last-is}

-- one schedule more, with a slice of its change
pub changes-more : (f : NamedSchedule → Option ScheduledChange) (xs : List NamedSchedule) (x : NamedSchedule)
    (found : Option ScheduledChange) (slice : List ScheduledChange) → found ≡ f x
    → MatchOption found (slice ≡ []) (λ change. slice ≡ change ∷ [])
    → filter_map f xs ++ slice ≡ filter_map f (xs ++ x ∷ [])
changes-more f xs x found slice is shown =
    ap (λ more. filter_map f xs ++ more) (by found shown ∙ ap (λ change. cons_option change []) is)
    ∙ sym (filter_map-append f xs (x ∷ []))
  where
    by : (found : Option ScheduledChange) → MatchOption found (slice ≡ []) (λ change. slice ≡ change ∷ []) → slice ≡ cons_option found []
    by None shown = shown
    by (Some change) shown = shown

-- the change, of the values and the sources of a day
abbrev change_by : ℕ → (ℕ → Option ℤ) → (ℕ → Source) → Option NextChange
change_by time value source = option_map
    (λ (segment : TimeValue). record { time = segment.time; value = segment.value; source = source segment.time })
    (first_after (segments_of value) time)

next_change-same : (s : Schedule) (day : Date) (time : ℕ) (cs ds : List Calendar) → hold_on day cs ≡ hold_on day ds
    → next_change s cs day time ≡ next_change s ds day time
unfolding next_change
next_change-same s day time cs ds same = ap₂ (change_by time)
    (fun_ext (λ (c : ℕ). schedule_value-same day c cs ds s same))
    (fun_ext (λ (c : ℕ). source_of-same s day c cs ds same))

changes-same : (cs ds : List Calendar) (local : LocalTime) → hold_on local.day cs ≡ hold_on local.day ds → (point : Text)
    (schedules : List NamedSchedule)
    → filter_map (change_at (now_at cs local) point) schedules ≡ filter_map (change_at (now_at ds local) point) schedules
changes-same cs ds local same point schedules =
    ap (λ (f : NamedSchedule → Option ScheduledChange). filter_map f schedules) (fun_ext (λ (s : NamedSchedule).
    ap (λ (found : Option NextChange).
    cond (targets_point point s) (option_map (λ (change : NextChange). record { schedule = s.name; change = change }) found) None)
    (next_change-same s.schedule local.day local.time cs ds same)))

-- over calendars that hold as those of the building do, at the local time of the last tick
pub changes-now : (b : Building) (imported : Text → List Text) (cs : List Calendar) (schedules : List NamedSchedule) (local : LocalTime)
    (last : Option ℤ) (point : Text) (changes : List ScheduledChange) → schedules ≡ b.schedules → Some local ≡ local_of b last
    → hold_on local.day cs ≡ hold_on local.day (calendars_of b (with_items imported []))
    → changes ≡ filter_map (change_at (now_at cs local) point) schedules → changes ≡ changes_at b imported (local_of b last) point
changes-now b imported cs schedules local last point changes all at holds is =
    is ∙ (ap (filter_map (change_at (now_at cs local) point)) all
    ∙ (changes-same cs (calendars_of b imported) local
    (holds ∙ ap (λ (texts : Text → List Text). hold_on local.day (calendars_of b texts)) (with_items-none imported)) point b.schedules
    ∙ ap (λ (found : Option LocalTime). changes_at b imported found point) at))

-- over a store that holds a list's tables
pub changes-held : (b : Building) (E : List Delivery) (s : Standing) → Holds b E s → (point : Text) (changes : List ScheduledChange)
    → ((imported : Text → List Text) → Tells s.content.tables.imported imported
    → changes ≡ changes_at b imported (local_of b s.content.tables.last_tick) point)
    → changes ≡ next_changes b E point
unfolding next_changes
changes-held b E s held point changes said =
    said (machine b E).imported (Tells-held b E s held)
    ∙ ap (λ (last : Option ℤ). changes_at b (machine b E).imported (local_of b last) point) (last-is b E s held)
