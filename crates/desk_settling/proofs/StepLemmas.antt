-- What one item more of a list adds to what was written.
use Rattle.std.proofs.Common.{◌≡◌, ℕ, ◌+◌, ◌<◌, ◌&&◌, Bool, true, false, List, [], ◌∷◌, ◌++◌, length, get_or, drop, refl, sym, ap, ◌∙◌, append_assoc}
use Rattle.std.specs.Bool.{IsTrue}
use Rattle.std.specs.List.{flat_map, list_all}
use Rattle.std.proofs.lemmas.List.{drop_more}
use Rattle.points.specs.declared.Point.{Point}
use Rattle.building.specs.declared.named_calendar.NamedCalendar.{NamedCalendar}
use Rattle.building.specs.declared.named_schedule.NamedSchedule.{NamedSchedule}
use Rattle.building.specs.ScheduleTable.{is_sound_schedule}
use Rattle.points.specs.Priority.{is_write_priority}
use Rattle.desk_settling.specs.declared.settlement.Written.{Written}
use Rattle.desk_settling.specs.Settled.{Now, Shown, cleared_by, falls_quiet, is_due, put_by, shown_by}
use Rattle.desk_settling.specs.Turns.{Turns}

-- the first item of the rest
rest-first : {A : Type 0} (xs : List A) (i : ℕ) (x : A) → i < length xs → x ≡ get_or xs i x → drop i xs ≡ x ∷ drop (i + 1) xs
rest-first xs i x within is = drop_more xs i x within ∙ ap (λ first. first ∷ drop (i + 1) xs) (sym is)

-- one item more of a list whose items each add theirs, before what the rest add
pub each-more : {A B : Type 0} (f : A → List B) (xs : List A) (i : ℕ) (x : A) (so_far more whole : List B) → i < length xs
    → x ≡ get_or xs i x
    → more ≡ so_far ++ f x → so_far ++ flat_map f (drop i xs) ≡ whole → more ++ flat_map f (drop (i + 1) xs) ≡ whole
each-more f xs i x so_far more whole within is adds before =
    ap (λ all. all ++ flat_map f (drop (i + 1) xs)) adds
    ∙ (append_assoc so_far (f x) (flat_map f (drop (i + 1) xs))
    ∙ (ap (λ rest. so_far ++ flat_map f rest) (sym (rest-first xs i x within is)) ∙ before))

-- what a schedule writes depends on what it shows itself, and on what no other shows
pub own-turn : (now : Now) (shown read : Shown) (s : NamedSchedule) (old new : Written) → read ≡ shown → Turns now (read s.name) s old new
    → (new.cleared.items ≡ old.cleared.items ++ cleared_by now shown s)
    × (new.put.items ≡ old.put.items ++ put_by now shown s)
    × (new.shown.items ≡ old.shown.items ++ shown_by now shown s)
unfolding is_due falls_quiet
own-turn now shown read s old new same turns = (
  turns.cleared ∙ ap (λ (known : Shown). old.cleared.items ++ cleared_by now known s) same,
  turns.put ∙ ap (λ (known : Shown). old.put.items ++ put_by now known s) same,
  turns.shown ∙ ap (λ (known : Shown). old.shown.items ++ shown_by now known s) same,
)

both-left : (a b : Bool) → (a && b) ≡ true → a ≡ true
both-left true b both = refl
both-left false b both = both

both-right : (a b : Bool) → (a && b) ≡ true → b ≡ true
both-right true b both = both
both-right false b both = absurd (cc)

-- the schedules of a building write at priorities of writes
pub write_priorities : (points : List Point) (calendars : List NamedCalendar) (schedules : List NamedSchedule)
    → IsTrue (list_all (is_sound_schedule points calendars) schedules)
    → IsTrue (list_all (λ (schedule : NamedSchedule). is_write_priority schedule.priority) schedules)
write_priorities points calendars [] all = refl
write_priorities points calendars (s ∷ schedules) all =
    let here = both-left (is_sound_schedule points calendars s) _ all in
    let rest = write_priorities points calendars schedules (both-right (is_sound_schedule points calendars s) _ all) in
    rw (both-left (is_write_priority s.priority) _ (both-left _ _ here)) rest

pub priority-first : (schedules : List NamedSchedule) (i : ℕ) (s : NamedSchedule) → i < length schedules → s ≡ get_or schedules i s
    → IsTrue (list_all (λ (schedule : NamedSchedule). is_write_priority schedule.priority) (drop i schedules))
    → IsTrue (is_write_priority s.priority)
    × IsTrue (list_all (λ (schedule : NamedSchedule). is_write_priority schedule.priority) (drop (i + 1) schedules))
priority-first schedules i s within is all =
    let split =
    ap (list_all (λ (schedule : NamedSchedule). is_write_priority schedule.priority)) (sym (rest-first schedules i s within is))
    ∙ all in
    (both-left (is_write_priority s.priority) _ split, both-right (is_write_priority s.priority) _ split)
