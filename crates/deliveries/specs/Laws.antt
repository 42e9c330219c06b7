-- What follows for whoever delivers again.
use Rattle.std.specs.Prelude.{◌≡◌, ℤ, true, false, List, [], ◌∷◌, ◌++◌, map, Option}
use Rattle.std.specs.Bool.{IsTrue}
use Rattle.building.specs.Building.{Building}
use Rattle.deliveries.specs.declared.delivery.Delivery.{Delivery}
use Rattle.deliveries.specs.declared.delivery.Delivery.TheVariants.{Import, Tick}
use Rattle.deliveries.specs.declared.reply.Reply.TheVariants.{Old}
use Rattle.deliveries.specs.Events.{is_later, is_moment, last_tick_of, machine}
use Rattle.deliveries.specs.Machine.{added, changes_shown_at, writes_at}
use Rattle.deliveries.specs.Reply.{reply}
use Rattle.deliveries.specs.Tables.{tables}
use Rattle.local_times.specs.declared.local_clock.LocalTime.{LocalTime}
use Rattle.building.specs.Roster.{are_distinct}
use Rattle.sched.specs.declared.calendar.CalendarEntry.{CalendarEntry}
use Rattle.building.specs.declared.named_schedule.NamedSchedule.{NamedSchedule}
use Rattle.desk_settling.specs.Settled.{Shown}
use Rattle.store.specs.Change.{with_each, with_shown}
use Rattle.points.specs.Texts.{Text}

-- no two schedules have one name, as in each building that was read
abbrev pub HasDistinctSchedules : Building → Type 0
HasDistinctSchedules building = IsTrue (are_distinct (map (λ (schedule : NamedSchedule). schedule.name) building.schedules))

-- what the schedules show once they have settled
abbrev pub shown_after : Building → (Text → List Text) → Shown → Option LocalTime → Shown
shown_after building imported shown local = with_each with_shown (changes_shown_at building imported shown local) shown

-- settled again at the same local time, they write nothing and show nothing else
pub record WritesNothingMore (building : Building) (imported : Text → List Text) (shown : Shown) (local : Option LocalTime) : Type 0 where
  pub writes : writes_at building imported (shown_after building imported shown local) local ≡ []
  pub tells : changes_shown_at building imported (shown_after building imported shown local) local ≡ []

abbrev pub SettledOnceIsSettled : Type 0
SettledOnceIsSettled = (building : Building) (imported : Text → List Text) (shown : Shown) (local : Option LocalTime)
    → HasDistinctSchedules building → WritesNothingMore building imported shown local

-- a tick that is not later than one before it changes nothing
abbrev pub LateTickChangesNothing : Type 0
LateTickChangesNothing = (building : Building) (earlier : List Delivery) (moment : ℤ)
    → is_later (last_tick_of building earlier) moment ≡ false
    → tables building (earlier ++ Tick moment ∷ []) ≡ tables building earlier

-- and is answered so, where it is in range
abbrev pub LateTickIsOld : Type 0
LateTickIsOld = (building : Building) (earlier : List Delivery) (moment : ℤ) → is_moment building moment ≡ true
    → is_later (last_tick_of building earlier) moment ≡ false
    → reply building earlier (Tick moment) ≡ Old

-- an import that adds nothing changes nothing
abbrev pub KnownImportChangesNothing : Type 0
KnownImportChangesNothing = (building : Building) (earlier : List Delivery) (rows : List CalendarEntry)
    → HasDistinctSchedules building → added building (machine building earlier).imported rows ≡ []
    → tables building (earlier ++ Import rows ∷ []) ≡ tables building earlier
