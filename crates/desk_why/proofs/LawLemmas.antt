-- The value of what put a place's value is that value.
use Rattle.std.proofs.Common.{◌≡◌, ℕ, ℤ, pos, Bool, true, false, ◌==◌, cond, List, [], ◌∷◌, Option, Some, None, option_map, refl, sym, ap, ◌∙◌, arith}
use Rattle.std.specs.FinMap.{get, get-insert, get-remove}
use Rattle.std.specs.Cmp.{nat_cmp_total}
use Rattle.std.specs.List.{list_any}
use Rattle.std.specs.Ordering.{eq_by_cmp, nat_cmp}
use Rattle.std.specs.Str.{bytes_eq}
use Rattle.std.proofs.lemmas.Bool.Decides.{nat_tests}
use Rattle.std.proofs.lemmas.Slice.Eq.{bytes_eq-Decides}
use Rattle.building.specs.Building.{Building}
use Rattle.building.specs.declared.named_schedule.NamedSchedule.{NamedSchedule}
use Rattle.deliveries.specs.Events.{events_after, machine}
use Rattle.deliveries.specs.Machine.{Event, Command, Import, Machine, Tick, local_of, now_of, place_of, places_after, rule_for, run, settled, step, with_rows}
use Rattle.local_times.specs.declared.local_clock.LocalTime.{LocalTime}
use Rattle.points.specs.declared.content.Content.{Content}
use Rattle.points.specs.declared.rule.Rule.{Rule}
use Rattle.points.specs.PriorityArray.{Places, put}
use Rattle.desk_settling.specs.Settled.{Now, Shown, value_of, written}
use Rattle.deliveries.specs.SettlingLaws.{is_due_at, last_of, leaves_at, value_or}
use Rattle.deliveries.proofs.MachineSame.{machine-append}
use Rattle.deliveries.proofs.PlaceLemmas.{each-place_holds}
use Rattle.store.specs.Change.{with_each, with_place}
use Rattle.points.specs.Texts.{Text}
use Rattle.desk_why.specs.declared.author.Held.{Held}
use Rattle.desk_why.specs.declared.author.Settling.{Settling}
use Rattle.desk_why.specs.declared.author.Settling.TheVariants as at
use Rattle.desk_why.specs.Authors as of
use Rattle.desk_why.specs.Authors.{held_of}
use Rattle.desk_why.specs.Laws.{PlaceHasItsAuthorsValue}
use Rattle.desk_why.specs.Settling.{held_after_settling, held_at, held_by_schedule, held_or}

abbrev value : Option Held → Option ℤ
value held = option_map (λ (held : Held). held.value) held

tied : (q k : ℕ) → eq_by_cmp nat_cmp q k ≡ (k == q)
tied q k = grind (arith, nat_tests)

get-put : (places : Places) (k q : ℕ) (v : Option ℤ) → get (put places k v) q ≡ cond (k == q) v (get places q)
get-put places k q None = get-remove nat_cmp_total places k q ∙ ap (λ same. cond same None (get places q)) (tied q k)
get-put places k q (Some v) = get-insert nat_cmp_total places k v q ∙ ap (λ same. cond same (Some v) (get places q)) (tied q k)

-- ---- a command

value-command : (panel : Text) (number : ℕ) (last v : Option ℤ) → value (of.held_by_command panel number last v) ≡ v
value-command panel number last None = refl
value-command panel number last (Some v) = refl

value-cond : (b : Bool) (x y : Option Held) (v w : Option ℤ) → value x ≡ v → value y ≡ w → value (cond b x y) ≡ cond b v w
value-cond true x y v w e f = e
value-cond false x y v w e f = f

after-command : (b : Building) (places : Text → Places) (last : Option ℤ) (panel : Text) (number : ℕ) (content : Content) (point : Text)
    (priority : ℕ) (held : Option Held) → value held ≡ get (places point) priority
    → value (of.held_after_command b last panel number content point priority held) ≡ get (places_after b places panel content point) priority
unfolding places_after
after-command b places last panel number content point priority held same =
    by (rule_for b panel content) refl (bytes_eq content.point point) refl
  where
    by : (rule : Option Rule) → rule_for b panel content ≡ rule → (here : Bool) → bytes_eq content.point point ≡ here
        → value (of.held_after_command b last panel number content point priority held)
        ≡ get (places_after b places panel content point) priority
    by (Some rule) e here f = rw e same
    by None e false f = rw (e, f) same
    by None e true f =
        let place = ap places ((bytes_eq-Decides content.point point).0 f) in
        rw (e, f) (value-cond (place_of content.priority == priority) (of.held_by_command panel number last content.value) held
        content.value (get (places content.point) priority) (value-command panel number last content.value)
        (same ∙ sym (ap (λ (array : Places). get array priority) place))
        ∙ sym (get-put (places content.point) (place_of content.priority) priority content.value))

-- ---- settling

value-schedule : (now : Now) (settling : Settling) (s : NamedSchedule) → value (held_by_schedule now settling s) ≡ value_of now s
value-schedule now settling s = by (value_of now s) refl
  where
    by : (v : Option ℤ) → value_of now s ≡ v → value (held_by_schedule now settling s) ≡ value_of now s
    by None e = rw e refl
    by (Some v) e = rw e refl

value-or : (now : Now) (settling : Settling) (last : Option NamedSchedule) (held : Option Held) (v : Option ℤ) → value held ≡ v
    → value (held_or now settling last held) ≡ value_or now last v
value-or now settling None held v same = same
value-or now settling (Some s) held v same = value-schedule now settling s

after-settling : (now : Now) (shown : Shown) (settling : Settling) (schedules : List NamedSchedule) (places : Text → Places)
    (point : Text) (priority : ℕ) (held : Option Held) → value held ≡ get (places point) priority
    → value (held_after_settling now shown settling schedules point priority held)
    ≡ get (with_each with_place (written now shown schedules) places point) priority
after-settling now shown settling schedules places point priority held same =
    value-or now settling (last_of (is_due_at now shown point priority) schedules)
    (cond (list_any (leaves_at now shown point priority) schedules) None held)
    (cond (list_any (leaves_at now shown point priority) schedules) None (get (places point) priority))
    (value-cond (list_any (leaves_at now shown point priority) schedules) None held None (get (places point) priority) refl same)
    ∙ sym (each-place_holds now shown schedules places point priority)

after-at : (b : Building) (m : Machine) (settling : Settling) (local : Option LocalTime) (point : Text) (priority : ℕ) (held : Option Held)
    → value held ≡ get (m.places point) priority
    → value (held_at b m.imported m.shown settling local point priority held) ≡ get ((settled b m local).places point) priority
unfolding settled
after-at b m settling None point priority held same = same
after-at b m settling (Some local) point priority held same =
    after-settling (now_of b m.imported local) m.shown settling b.schedules m.places point priority held same

after-last : (b : Building) (m : Machine) (last : Option ℤ) (point : Text) (priority : ℕ) (held : Option Held)
    → value held ≡ get (m.places point) priority
    → value (of.held_at_last b m.imported m.shown last point priority held) ≡ get ((settled b m (local_of b last)).places point) priority
after-last b m None point priority held same = after-at b m (at.Import (pos 0)) None point priority held same
after-last b m (Some last) point priority held same = after-at b m (at.Import last) (local_of b (Some last)) point priority held same

-- ---- events

after-event : (b : Building) (m : Machine) (event : Event) (point : Text) (priority : ℕ) (held : Option Held)
    → value held ≡ get (m.places point) priority
    → value (of.held_after b m event point priority held) ≡ get ((step b m event).places point) priority
after-event b m (Command panel number content) point priority held same =
    after-command b m.places m.last_tick panel number content point priority held same
after-event b m (Tick moment) point priority held same =
    after-at b m (at.Tick moment) (local_of b (Some moment)) point priority held same
after-event b m (Import rows) point priority held same =
    after-last b (with_rows b m rows) m.last_tick point priority held same

after-events : (b : Building) (m : Machine) (events : List Event) (point : Text) (priority : ℕ) (held : Option Held)
    → value held ≡ get (m.places point) priority
    → value (of.held_along b m events point priority held) ≡ get ((run b m events).places point) priority
after-events b m [] point priority held same = same
after-events b m (event ∷ events) point priority held same =
    after-events b (step b m event) events point priority (of.held_after b m event point priority held)
    (after-event b m event point priority held same)

value-before : (places : Places) (priority : ℕ) → value (of.held_before places priority) ≡ get places priority
value-before places priority = by (get places priority) refl
  where
    by : (v : Option ℤ) → get places priority ≡ v → value (of.held_before places priority) ≡ get places priority
    by None e = rw e refl
    by (Some v) e = rw e refl

pub author-value : PlaceHasItsAuthorsValue
unfolding held_of
author-value b earlier deliveries point priority =
    let begun = machine b earlier in
    after-events b begun (events_after b earlier deliveries) point priority (of.held_before (begun.places point) priority)
    (value-before (begun.places point) priority)
    ∙ ap (λ (m : Machine). get (m.places point) priority) (sym (machine-append b earlier deliveries))
