-- What is kept of a day, where one span more is kept.
use Rattle.std.proofs.Common.{◌≡◌, ◌⊎◌, inl, inr, ℕ, ℤ, Bool, true, false, if◌then◌else◌, List, Option, Some, None, refl, sym, ◌∙◌, subst, Result, Ok, Err, OnOk, IfOk, ap, [], ◌<◌, length, get_or}
use Rattle.std.proofs.Math.Path.{fun_ext}
use Rattle.std.proofs.lemmas.List.{append-nil}
use Rattle.std.proofs.lemmas.Option.{slice_get-get_or}
use Rattle.std.specs.Prelude.{slice_get}
use Rattle.building.specs.declared.named_schedule.NamedSchedule.{NamedSchedule}
use Rattle.jiff_core.specs.declared.civil.date.Date.{Date}
use Rattle.desk_settling.specs.Calendars.{with_items}
use Rattle.desk_settling.specs.Kept.{HasSpans, Stands, current_of}
use Rattle.points.specs.Texts.{Text}
use Rattle.desk_settling.specs.Settled.{Now, is_active_now, value_of}
use Rattle.desk_settling.specs.declared.kept.KeptDay.{KeptDay}
use Rattle.desk_settling.specs.declared.kept.KeptSpan.{KeptSpan}

pub keeps_spans : (schedules : List NamedSchedule) (old new : KeptDay) (index : ℕ) (schedule : NamedSchedule) (kept : KeptSpan)
    → new.day ≡ old.day → new.calendars ≡ old.calendars
    → ((other : ℕ) (found : KeptSpan) → slice_get new.spans.items other ≡ Some (Some found)
    → ((other ≡ index) × (found ≡ kept)) ⊎ (slice_get old.spans.items other ≡ Some (Some found)))
    → slice_get schedules index ≡ Some schedule → Stands old.calendars.items old.day schedule.schedule kept
    → HasSpans schedules old → HasSpans schedules new
keeps_spans schedules old new index schedule kept same_day same_calendars puts here stands each =
    λ other found_schedule found is_schedule is_found.
    subst (λ calendars. Stands calendars.items new.day found_schedule.schedule found) (sym same_calendars)
    (subst (λ (day : Date). Stands old.calendars.items day found_schedule.schedule found) (sym same_day)
    (elim (puts other found is_found) [
      | inl same ↦
          let at_index = subst (λ n. slice_get schedules n ≡ Some found_schedule) same.0 is_schedule in
          let it : schedule ≡ found_schedule = cc in
          subst (λ k. Stands old.calendars.items old.day found_schedule.schedule k) (sym same.1)
          (subst (λ (s : NamedSchedule). Stands old.calendars.items old.day s.schedule kept) it stands)
      | inr was ↦ each other found_schedule found is_schedule was
    ]))

-- what the value of a schedule, if it is active, says
if_some : (b : Bool) (v w : Option ℤ) → Some w ≡ (if b then Some v else None) → (b ≡ true) × (v ≡ w)
if_some true v w is = (refl, (let e : v ≡ w = cc in e))
if_some false v w is = absurd (let e : ⊥ = cc in e)

if_none : (b : Bool) (v : Option ℤ) → None ≡ (if b then Some v else None) → b ≡ false
if_none true v is = absurd (let e : ⊥ = cc in e)
if_none false v is = refl

pub current_active : (now : Now) (schedule : NamedSchedule) (value : Option ℤ) → Some value ≡ current_of now schedule
    → (is_active_now now schedule ≡ true) × (value_of now schedule ≡ value)
current_active now schedule value is = if_some (is_active_now now schedule) (value_of now schedule) value is

pub current_quiet : (now : Now) (schedule : NamedSchedule) → None ≡ current_of now schedule → is_active_now now schedule ≡ false
current_quiet now schedule is = if_none (is_active_now now schedule) (value_of now schedule) is

-- what follows of two facts of a call that succeeded
pub on_ok_three : {X E : Type 0} (r : Result X E) (A B C : Type 0) → OnOk r A → OnOk r B → (A → B → C) → OnOk r C
on_ok_three (Ok x) A B C a b gives = gives a b
on_ok_three (Err e) A B C a b gives = tt

pub is_none_from : {A : Type 0} (o : Option A) → ((x : A) → o ≡ Some x → ⊥) → o ≡ None
is_none_from None none = refl
is_none_from (Some x) none = absurd (none x refl)

pub if_ok_map : {X E : Type 0} (r : Result X E) (P Q : X → Type 0) → IfOk r P → ((x : X) → P x → Q x) → IfOk r Q
if_ok_map (Ok x) P Q here gives = gives x here
if_ok_map (Err e) P Q here gives = tt

-- the item at an index
pub here_get : {A : Type 0} (xs : List A) (i : ℕ) (x : A) → i < length xs → x ≡ get_or xs i x → slice_get xs i ≡ Some x
here_get xs i x within is = slice_get-get_or xs i x within ∙ ap Some (sym is)

-- nothing more is imported
pub no_items : (imported : Text → List Text) → with_items imported [] ≡ imported
no_items imported = fun_ext (λ (calendar : Text). append-nil (imported calendar))
