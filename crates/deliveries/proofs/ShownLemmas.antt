-- What each schedule shows once all have settled.
use Rattle.std.proofs.Common.{◌≡◌, ℤ, Bool, true, false, cond, List, [], ◌∷◌, ◌++◌, Option, Some, None, is_some, refl, sym, ap}
use Rattle.std.proofs.Common.{◌∙◌}
use Rattle.std.specs.List.{All, flat_map}
use Rattle.std.proofs.lemmas.Bool.{false≢true}
use Rattle.std.proofs.lemmas.Bool.Decides.{Decides-int_eq}
use Rattle.std.proofs.lemmas.List.Elements.{All-cons, All-nil}
use Rattle.building.specs.Building.{Building}
use Rattle.building.specs.declared.named_schedule.NamedSchedule.{NamedSchedule}
use Rattle.deliveries.specs.Laws.{HasDistinctSchedules, shown_after}
use Rattle.deliveries.specs.Machine.{now_of}
use Rattle.deliveries.proofs.QuietLemmas.{settled-again}
use Rattle.local_times.specs.declared.local_clock.LocalTime.{LocalTime}
use Rattle.desk_settling.specs.Settled.{Now, Shown, falls_quiet, is_active_now, is_due, shown_by, shows, changes_shown, value_of}
use Rattle.points.specs.Texts.{Text}
use Rattle.deliveries.specs.SettlingLaws.{shown_now}

-- a schedule that shows a value shows it
shows-same : (shown : Option (Option ℤ)) (value : Option ℤ) → shows shown value ≡ true → shown ≡ Some value
shows-same None value e = absurd (false≢true e)
shows-same (Some None) None e = refl
shows-same (Some None) (Some value) e = absurd (false≢true e)
shows-same (Some (Some held)) None e = absurd (false≢true e)
shows-same (Some (Some held)) (Some value) e = ap (λ x. Some (Some x)) ((Decides-int_eq held value).0 e)

none-there : {A : Type 0} (x : Option A) → is_some x ≡ false → x ≡ None
none-there None e = refl
none-there (Some a) e = absurd (false≢true (sym e))

-- one of which nothing changes shows what it must
shown-still : (now : Now) (final : Shown) (s : NamedSchedule) → shown_by now final s ≡ [] → final s.name ≡ shown_now now s
unfolding is_due falls_quiet
shown-still now final s none =
    by (is_active_now now s) refl (shows (final s.name) (value_of now s)) refl (is_some (final s.name)) refl
  where
    some : {A : Type 0} (x : A) → x ∷ [] ≡ [] → ⊥
    some x e = cc

    by : (active : Bool) → is_active_now now s ≡ active → (same : Bool) → shows (final s.name) (value_of now s) ≡ same
        → (there : Bool) → is_some (final s.name) ≡ there → final s.name ≡ cond (is_active_now now s) (Some (value_of now s)) None
    by true a true b there c = rw a (shows-same (final s.name) (value_of now s) b)
    by true a false b there c =
        let one : record { schedule = s.name; shown = Some (value_of now s) } ∷ [] ≡ [] = sym (rw (a, b) refl) ∙ none in absurd (some _ one)
    by false a same b true c =
        let one : record { schedule = s.name; shown = None } ∷ [] ≡ [] = sym (rw (a, c) refl) ∙ none in absurd (some _ one)
    by false a same b false c = rw a (none-there (final s.name) c)

no-first : {A : Type 0} (xs ys : List A) → xs ++ ys ≡ [] → (xs ≡ []) × (ys ≡ [])
no-first [] ys e = (refl, e)
no-first (x ∷ xs) ys e = absurd cc

all-still : (now : Now) (final : Shown) (schedules : List NamedSchedule) → flat_map (shown_by now final) schedules ≡ []
    → All (λ (s : NamedSchedule). final s.name ≡ shown_now now s) schedules
all-still now final [] none = All-nil (λ (s : NamedSchedule). final s.name ≡ shown_now now s)
all-still now final (s ∷ rest) none =
    let parts = no-first (shown_by now final s) (flat_map (shown_by now final) rest) none in
    All-cons (λ (s : NamedSchedule). final s.name
    ≡ shown_now now s) s rest (shown-still now final s parts.0) (all-still now final rest parts.1)

pub each-schedule_shows : (b : Building) (imported : Text → List Text) (shown : Shown) (local : LocalTime) → HasDistinctSchedules b
    → All (λ (s : NamedSchedule). shown_after b imported shown (Some local) s.name ≡ shown_now (now_of b imported local) s) b.schedules
unfolding changes_shown
each-schedule_shows b imported shown local distinct =
    all-still (now_of b imported local) (shown_after b imported shown (Some local)) b.schedules
    (settled-again b imported shown (Some local) distinct).tells
