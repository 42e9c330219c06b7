-- Settling depends on calendars by whether they hold on the day alone; and what a tick or an import does to a place.
use Rattle.std.proofs.Common.{◌≡◌, ℕ, ℤ, Bool, true, false, not, ◌&&◌, cond, List, ◌∷◌, Option, Some, None, is_some, option_map, []}
use Rattle.std.proofs.Common.{refl, sym, ap, ap₂, ◌∙◌}
use Rattle.std.proofs.Math.Path.{fun_ext}
use Rattle.std.specs.List.{list_all, list_any}
use Rattle.building.specs.Building.{Building}
use Rattle.building.specs.declared.named_schedule.NamedSchedule.{NamedSchedule}
use Rattle.deliveries.specs.declared.delivery.Delivery.{Delivery}
use Rattle.deliveries.specs.declared.delivery.Delivery.TheVariants as delivery_of
use Rattle.deliveries.specs.Delivered.{Holds}
use Rattle.deliveries.specs.Events.{acted_on, has_calendar, is_later, is_moment, last_tick_of, machine}
use Rattle.deliveries.specs.Machine.{Import, Tick, added, local_of}
use Rattle.deliveries.specs.Reply.{refused_record}
use Rattle.deliveries.proofs.ClockLemmas.{acted_on-clock, machine-last_tick, tables-last_tick, tables-shown, with_items-none}
use Rattle.deliveries.proofs.RefusedLemmas.{refused-at}
use Rattle.local_times.specs.declared.local_clock.LocalTime.{LocalTime}
use Rattle.sched.specs.declared.calendar.Calendar.{Calendar}
use Rattle.sched.specs.declared.calendar.CalendarEntry.{CalendarEntry}
use Rattle.desk_settling.specs.Calendars.{with_items}
use Rattle.sched.specs.Calendar.{hold_on}
use Rattle.desk_settling.specs.Settled.{Shown, falls_quiet, is_active_now, is_due, shows}
use Rattle.desk_settling.specs.Turns.{now_at}
use Rattle.desk_settling.proofs.ValueLemmas.{schedule_value-same}
use Rattle.deliveries.specs.SettlingLaws.{is_due_at, last_of, leaves_at, targets}
use Rattle.store.specs.declared.change.ImportedEntry.{ImportedEntry}
use Rattle.store.specs.Standing.{Content as a_content, Standing}
use Rattle.points.specs.Texts.{Text}
use Rattle.sched.proofs.SameLemmas.{source_of-same}
use Rattle.desk_why.specs.declared.author.Held.{Held}
use Rattle.desk_why.specs.declared.author.Author.TheVariants as by
use Rattle.desk_why.specs.declared.author.Settling.{Settling}
use Rattle.desk_why.specs.declared.author.Settling.TheVariants as at
use Rattle.desk_why.specs.declared.authors.Authors.{Authors}
use Rattle.desk_why.specs.Authors.{held_along, held_at_last}
use Rattle.desk_why.specs.AuthorsTable.{held_in}
use Rattle.desk_why.specs.Settling.{held_after_settling, held_at, held_by_schedule, held_or}
use Rattle.desk_why.specs.Steps.{Becomes}

module _ (cs ds : List Calendar) (local : LocalTime) (same : hold_on local.day cs ≡ hold_on local.day ds) where
  held_by_schedule-same : (settling : Settling) (s : NamedSchedule)
      → held_by_schedule (now_at cs local) settling s ≡ held_by_schedule (now_at ds local) settling s
  held_by_schedule-same settling s =
      ap₂ (λ source value. option_map (λ (v : ℤ). record { value = v; author = by.Schedule s.name source settling }) value)
      (source_of-same s.schedule local.day local.time cs ds same)
      (schedule_value-same local.day local.time cs ds s.schedule same)

  held_or-same : (settling : Settling) (last : Option NamedSchedule) (held : Option Held)
      → held_or (now_at cs local) settling last held ≡ held_or (now_at ds local) settling last held
  held_or-same settling None held = refl
  held_or-same settling (Some s) held = held_by_schedule-same settling s

  is_due_at-same : (shown : Shown) (point : Text) (priority : ℕ)
      → is_due_at (now_at cs local) shown point priority ≡ is_due_at (now_at ds local) shown point priority
  unfolding is_due
  is_due_at-same shown point priority = fun_ext (λ (s : NamedSchedule).
      ap (λ value. (is_active_now (now_at cs local) s && not (shows (shown s.name) value)) && targets point priority s)
      (schedule_value-same local.day local.time cs ds s.schedule same))

  leaves_at-same : (shown : Shown) (point : Text) (priority : ℕ)
      → leaves_at (now_at cs local) shown point priority ≡ leaves_at (now_at ds local) shown point priority
  unfolding falls_quiet
  leaves_at-same shown point priority = refl

  pub held_after_settling-same : (shown : Shown) (settling : Settling) (schedules : List NamedSchedule) (point : Text) (priority : ℕ)
      (held : Option Held)
      → held_after_settling (now_at cs local) shown settling schedules point priority held
      ≡ held_after_settling (now_at ds local) shown settling schedules point priority held
  held_after_settling-same shown settling schedules point priority held =
      held_or-same settling (last_of (is_due_at (now_at cs local) shown point priority) schedules)
      (cond (list_any (leaves_at (now_at cs local) shown point priority) schedules) None held)
      ∙ ap₂ (λ due leaves. held_or (now_at ds local) settling (last_of due schedules) (cond (list_any leaves schedules) None held))
      (is_due_at-same shown point priority) (leaves_at-same shown point priority)

-- ---- what a tick and an import do to a place

-- a tick that is acted on, or that comes at no local time
pub held-ticked : (b : Building) (E : List Delivery) (moment : ℤ) (point : Text) (priority : ℕ) (held : Option Held)
    → is_later (last_tick_of b E) moment ≡ true → let m = machine b E in
    held_at b m.imported m.shown (at.Tick moment) (local_of b (Some moment)) point priority held
    ≡ held_along b m (acted_on b E (delivery_of.Tick moment)) point priority held
held-ticked b E moment point priority held later =
    by (local_of b (Some moment)) refl
    ∙ ap (λ events. held_along b (machine b E) events point priority held)
    (sym (acted_on-clock b E (delivery_of.Tick moment) refl ∙ ap (λ late. cond (is_moment b moment && late) (Tick moment ∷ []) []) later))
  where
    by : (found : Option LocalTime) → local_of b (Some moment) ≡ found → let m = machine b E in
        held_at b m.imported m.shown (at.Tick moment) (local_of b (Some moment)) point priority held
        ≡ held_along b m (cond (is_some found && true) (Tick moment ∷ []) []) point priority held
    by None e = ap (λ local. held_at b (machine b E).imported (machine b E).shown (at.Tick moment) local point priority held) e
    by (Some local) e = refl

pub held-unticked : (b : Building) (E : List Delivery) (moment : ℤ) (point : Text) (priority : ℕ) (held : Option Held)
    → is_later (last_tick_of b E) moment ≡ false
    → held ≡ held_along b (machine b E) (acted_on b E (delivery_of.Tick moment)) point priority held
held-unticked b E moment point priority held old =
    by (is_moment b moment)
    ∙ ap (λ events. held_along b (machine b E) events point priority held)
    (sym (acted_on-clock b E (delivery_of.Tick moment) refl ∙ ap (λ late. cond (is_moment b moment && late) (Tick moment ∷ []) []) old))
  where
    by : (in_range : Bool) → held ≡ held_along b (machine b E) (cond (in_range && false) (Tick moment ∷ []) []) point priority held
    by true = refl
    by false = refl

import-happens : (b : Building) (E : List Delivery) (rows : List CalendarEntry) (refused : Bool)
    → is_some (refused_record b rows) ≡ refused → acted_on b E (delivery_of.Import rows) ≡ cond (not refused) (Import rows ∷ []) []
import-happens b E rows refused is =
    acted_on-clock b E (delivery_of.Import rows) refl
    ∙ ap (λ all. cond all (Import rows ∷ []) []) (twice (list_all (has_calendar b) rows) ∙ ap not (sym (refused-at b rows) ∙ is))
  where
    twice : (b : Bool) → b ≡ not (not b)
    twice true = refl
    twice false = refl

pub held-imported : (b : Building) (E : List Delivery) (rows : List CalendarEntry) (point : Text) (priority : ℕ) (held : Option Held)
    → is_some (refused_record b rows) ≡ false → let m = machine b E in
    held_at_last b (with_items m.imported (added b m.imported rows)) m.shown m.last_tick point priority held
    ≡ held_along b m (acted_on b E (delivery_of.Import rows)) point priority held
held-imported b E rows point priority held done =
    ap (λ events. held_along b (machine b E) events point priority held) (sym (import-happens b E rows false done))

pub held-refused : (b : Building) (E : List Delivery) (rows : List CalendarEntry) (point : Text) (priority : ℕ) (held : Option Held)
    → is_some (refused_record b rows) ≡ true
    → held ≡ held_along b (machine b E) (acted_on b E (delivery_of.Import rows)) point priority held
held-refused b E rows point priority held refused =
    ap (λ events. held_along b (machine b E) events point priority held) (sym (import-happens b E rows true refused))

-- ---- over a store that holds a list's tables

module _ (b : Building) (E : List Delivery) (s : Standing) (held : Holds b E s) where
  shown-is : s.content.tables.shown ≡ (machine b E).shown
  shown-is = ap (λ (content : a_content). content.tables.shown) held ∙ tables-shown b E

  pub last-is : s.content.tables.last_tick ≡ (machine b E).last_tick
  last-is = ap (λ (content : a_content). content.tables.last_tick) held ∙ (tables-last_tick b E ∙ sym (machine-last_tick b E))

  pub ticked-along : (moment : ℤ) (old new : Authors) → is_later (last_tick_of b E) moment ≡ true
      → Becomes (held_at b (with_items (machine b E).imported []) s.content.tables.shown (at.Tick moment) (local_of b (Some moment))) old new
      → Becomes (held_along b (machine b E) (acted_on b E (delivery_of.Tick moment))) old new
  ticked-along moment old new later becomes = λ point priority.
      let was = held_in old point priority in
      becomes point priority
      ∙ ((λ i. held_at b (with_items-none (machine b E).imported i) (shown-is i) (at.Tick moment) (local_of b (Some moment)) point priority was)
      ∙ held-ticked b E moment point priority was later)

  pub imported-along : (rows : List CalendarEntry) (items : List ImportedEntry) (last : Option ℤ) (old new : Authors)
      → items ≡ added b (machine b E).imported rows → last ≡ s.content.tables.last_tick → is_some (refused_record b rows) ≡ false
      → Becomes (held_at_last b (with_items (machine b E).imported items) s.content.tables.shown last) old new
      → Becomes (held_along b (machine b E) (acted_on b E (delivery_of.Import rows))) old new
  imported-along rows items last old new items_are at done becomes = λ point priority.
      let was = held_in old point priority in
      becomes point priority
      ∙ ((λ i. held_at_last b (with_items (machine b E).imported (items_are i)) (shown-is i) ((at ∙ last-is) i) point priority was)
      ∙ held-imported b E rows point priority was done)
