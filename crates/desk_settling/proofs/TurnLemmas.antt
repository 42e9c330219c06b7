-- What a schedule writes in each case of its value and of what it shows.
use Rattle.std.proofs.Common.{◌≡◌, ℤ, Bool, true, false, not, ◌&&◌, if◌then◌else◌, [], ◌∷◌, ◌++◌, Option, Some, None, is_some, refl, sym, subst}
use Rattle.std.proofs.lemmas.List.{append-nil}
use Rattle.building.specs.declared.named_schedule.NamedSchedule.{NamedSchedule}
use Rattle.desk_settling.specs.declared.settlement.Written.{Written}
use Rattle.desk_settling.specs.Kept.{current_of}
use Rattle.desk_settling.specs.Settled.{Now, at_each_target, falls_quiet, is_active_now, is_due, shows, value_of, when_leaving}
use Rattle.desk_settling.specs.Turns.{Turns}
use Rattle.desk_settling.proofs.KeptLemmas.{current_active, current_quiet}

module _ (now : Now) (shown : Option (Option ℤ)) (schedule : NamedSchedule) (old new : Written) where
  -- by whether the schedule is active, whether it shows its value, and whether it shows anything
  abbrev Clears : Bool → Bool → Type 0
  Clears active any = new.cleared.items ≡ old.cleared.items ++ (if not active && any then when_leaving schedule else [])

  abbrev Puts : Bool → Bool → Option ℤ → Type 0
  Puts active same value = new.put.items ≡ old.put.items ++ (if active && not same then at_each_target value schedule else [])

  abbrev Tells : Bool → Bool → Bool → Option ℤ → Type 0
  Tells active same any value =
      new.shown.items ≡ old.shown.items ++ (if active && not same then record { schedule = schedule.name; shown = Some value } ∷ []
      else (if not active && any then record { schedule = schedule.name; shown = None } ∷ [] else []))

  turns_where : (active same any : Bool) (value : Option ℤ) → is_active_now now schedule ≡ active → value_of now schedule ≡ value
      → shows shown value ≡ same → is_some shown ≡ any → Clears active any → Puts active same value → Tells active same any value
      → Turns now shown schedule old new
  unfolding is_due falls_quiet
  turns_where active same any value is_active is_value is_same is_any clears puts tells = record {
    cleared =
        subst (λ b. Clears b (is_some shown)) (sym is_active) (subst (λ s. Clears active s) (sym is_any) clears);
    put =
        subst (λ b. Puts b (shows shown (value_of now schedule)) (value_of now schedule)) (sym is_active)
        (subst (λ v. Puts active (shows shown v) v) (sym is_value) (subst (λ s. Puts active s value) (sym is_same) puts));
    shown =
        subst (λ b. Tells b (shows shown (value_of now schedule)) (is_some shown) (value_of now schedule)) (sym is_active)
        (subst (λ v. Tells active (shows shown v) (is_some shown) v) (sym is_value)
        (subst (λ s. Tells active s (is_some shown) value) (sym is_same) (subst (λ s. Tells active same s value) (sym is_any) tells)));
  }

  -- an active schedule that does not show its value puts it
  pub turn_due : (value : Option ℤ) → Some value ≡ current_of now schedule → shows shown value ≡ false
      → new.cleared ≡ old.cleared → new.put.items ≡ old.put.items ++ at_each_target value schedule
      → new.shown.items ≡ old.shown.items ++ record { schedule = schedule.name; shown = Some value } ∷ []
      → Turns now shown schedule old new
  turn_due value is other cleared put changes_shown =
      let both = current_active now schedule value is in
      turns_where true false (is_some shown) value both.0 both.1 other refl
      (subst (λ l. l ≡ old.cleared.items ++ []) (λ i. (sym cleared i).items) (sym (append-nil old.cleared.items))) put changes_shown

  -- one that is not active and shows something falls quiet
  pub turn_quiet : (value : Option ℤ) → None ≡ current_of now schedule → shown ≡ Some value → new.put ≡ old.put
      → new.cleared.items ≡ old.cleared.items ++ when_leaving schedule
      → new.shown.items ≡ old.shown.items ++ record { schedule = schedule.name; shown = None } ∷ []
      → Turns now shown schedule old new
  turn_quiet value is shows_it put cleared changes_shown =
      turns_where false (shows shown (value_of now schedule)) true (value_of now schedule) (current_quiet now schedule is) refl refl
      (λ i. is_some (shows_it i)) cleared
      (subst (λ l. l ≡ old.put.items ++ []) (λ i. (sym put i).items) (sym (append-nil old.put.items))) changes_shown

module _ (now : Now) (shown : Option (Option ℤ)) (schedule : NamedSchedule) (written : Written) where
  -- one that shows its value writes nothing
  pub turn_same : (value : Option ℤ) → Some value ≡ current_of now schedule → shows shown value ≡ true
      → Turns now shown schedule written written
  turn_same value is same =
      let both = current_active now schedule value is in
      turns_where now shown schedule written written true true (is_some shown) value both.0 both.1 same refl
      (sym (append-nil written.cleared.items)) (sym (append-nil written.put.items)) (sym (append-nil written.shown.items))

  -- nor does one that is not active and shows nothing
  pub turn_none : None ≡ current_of now schedule → shown ≡ None → Turns now shown schedule written written
  turn_none is none =
      turns_where now shown schedule written written false (shows shown (value_of now schedule)) false (value_of now schedule)
      (current_quiet now schedule is) refl refl (λ i. is_some (none i))
      (sym (append-nil written.cleared.items)) (sym (append-nil written.put.items)) (sym (append-nil written.shown.items))
