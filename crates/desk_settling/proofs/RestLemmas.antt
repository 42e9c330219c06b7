-- What rests at one time of a day rests over the span that holds it, and writes nothing.
use Rattle.std.proofs.Common.{◌≡◌, ℕ, zero, suc, Bool, true, false, not, ◌&&◌, List, [], ◌∷◌, ◌++◌, Option, Some, None, IfSome, slice_get, refl, sym, ap, ◌∙◌, subst}
use Rattle.std.specs.List.{flat_map}
use Rattle.std.proofs.lemmas.List.{append-nil}
use Rattle.building.specs.declared.named_schedule.NamedSchedule.{NamedSchedule}
use Rattle.jiff_core.specs.declared.civil.date.Date.{Date}
use Rattle.sched.specs.declared.calendar.Calendar.{Calendar}
use Rattle.sched.specs.Schedule.{is_active, schedule_value}
use Rattle.local_times.specs.declared.local_clock.LocalTime.{LocalTime}
use Rattle.sched.specs.Calendar.{hold_on}
use Rattle.desk_settling.specs.Rests.{HaveRested, Rests, at_time}
use Rattle.desk_settling.specs.Turns.{now_at}
use Rattle.desk_settling.proofs.ValueLemmas.{reported-same}
use Rattle.desk_settling.specs.Settled.{Now, Shown, cleared_by, falls_quiet, is_due, put_by, shown_by, shows, changes_shown}
use Rattle.store.specs.declared.change.ShownValue.{ShownValue}

module _ (calendars : List Calendar) (day : Date) (shown : Shown) (s : NamedSchedule) (b c : ℕ)
    (rests : Rests (at_time calendars day b) shown s) where
  -- a schedule that rests at one time rests at another at which it has the same value
  pub rests_over : schedule_value s.schedule calendars day b ≡ schedule_value s.schedule calendars day c
      → Rests (at_time calendars day c) shown s
  unfolding is_due falls_quiet
  rests_over same = record {
    not_due = ap (λ (v : Option _). is_active s.schedule day && not (shows (shown s.name) v)) (sym same) ∙ rests.not_due;
    not_quiet = rests.not_quiet;
  }

  -- one that is not active rests over the whole day
  pub rests_inactive : is_active s.schedule day ≡ false → Rests (at_time calendars day c) shown s
  unfolding is_due falls_quiet
  rests_inactive inactive = record { not_due = rw inactive refl; not_quiet = rests.not_quiet }

module _ (now : Now) (shown : Shown) where
  -- one that rests writes and shows nothing
  pub nothing_cleared : (s : NamedSchedule) → Rests now shown s → cleared_by now shown s ≡ []
  nothing_cleared s rests = let quiet = rests.not_quiet in rw quiet refl

  pub nothing_put : (s : NamedSchedule) → Rests now shown s → put_by now shown s ≡ []
  nothing_put s rests = let due = rests.not_due in rw due refl

  pub nothing_shown : (s : NamedSchedule) → Rests now shown s → shown_by now shown s ≡ []
  nothing_shown s rests = let due = rests.not_due in let quiet = rests.not_quiet in rw (due, quiet) refl

  not_none : (x : ShownValue) (xs : List ShownValue) → x ∷ xs ≡ [] → ⊥
  not_none x xs e = cc

  -- one that shows nothing new rests
  rests_one : (s : NamedSchedule) (rest : List ShownValue) → shown_by now shown s ++ rest ≡ [] → Rests now shown s
  rests_one s rest none = by (is_due now shown s) refl (falls_quiet now shown s) refl
    where
      by : (due : Bool) → is_due now shown s ≡ due → (quiet : Bool) → falls_quiet now shown s ≡ quiet → Rests now shown s
      by true e quiet f = let some = rw e at none in absurd (not_none _ _ some)
      by false e true f = let some = rw (e, f) at none in absurd (not_none _ _ some)
      by false e false f = record { not_due = e; not_quiet = f }

  -- where the schedules show nothing new, each of them rests
  pub rests_at : (schedules : List NamedSchedule) (i : ℕ) (s : NamedSchedule) → changes_shown now shown schedules ≡ []
      → slice_get schedules i ≡ Some s → Rests now shown s
  unfolding changes_shown
  rests_at [] i s none here = absurd cc
  rests_at (x ∷ rest) zero s none here =
      let same : x ≡ s = cc in subst (λ (y : NamedSchedule). Rests now shown y) same (rests_one x (flat_map (shown_by now shown) rest) none)
  rests_at (x ∷ rest) (suc i) s none here =
      let more = flat_map (shown_by now shown) rest in
      rests_at rest i s
      (ap (λ (l : List ShownValue). l ++ more) (sym (nothing_shown x (rests_one x more none))) ∙ none) here

pub not_true : (b : Bool) → not b ≡ true → b ≡ false
not_true true is = sym is
not_true false is = refl

pub adds_none : {A : Type 0} (xs ys : List A) → ys ≡ [] → xs ≡ xs ++ ys
adds_none xs ys none = sym (append-nil xs) ∙ ap (λ l. xs ++ l) (sym none)

-- at an earlier local time nothing would change: at its time of this day, over other calendars that hold on it, neither
pub since_rests : (cs ds : List Calendar) (day : Date) (read shown : Shown) (schedules : List NamedSchedule) (since : Option LocalTime)
    (time : Option ℕ) → read ≡ shown → hold_on day cs ≡ hold_on day ds
    → IfSome time (λ at. since ≡ Some (record { day = day; time = at }))
    → IfSome since (λ earlier. changes_shown (now_at ds earlier) shown schedules ≡ [])
    → HaveRested cs day read schedules time
since_rests cs ds day read shown schedules since None same holds is rested = tt
since_rests cs ds day read shown schedules since (Some at) same holds is rested =
    let local : LocalTime = record { day = day; time = at } in
    ap (λ (known : Shown). changes_shown (now_at cs local) known schedules) same
    ∙ (reported-same cs ds local shown schedules holds
    ∙ subst (λ (o : Option LocalTime). IfSome o (λ earlier. changes_shown (now_at ds earlier) shown schedules ≡ [])) is rested)

-- where nothing changed at an earlier time, each schedule rested then
pub rested_each : (calendars : List Calendar) (day : Date) (shown : Shown) (schedules : List NamedSchedule) (i : ℕ) (s : NamedSchedule)
    (since : Option ℕ) → HaveRested calendars day shown schedules since → slice_get schedules i ≡ Some s
    → IfSome since (λ earlier. Rests (at_time calendars day earlier) shown s)
rested_each calendars day shown schedules i s None rested here = tt
rested_each calendars day shown schedules i s (Some earlier) rested here = rests_at (at_time calendars day earlier) shown schedules i s rested here
