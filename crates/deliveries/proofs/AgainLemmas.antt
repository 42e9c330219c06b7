-- Schedules that have settled write and show nothing more.
use Rattle.std.proofs.Common.{◌≡◌, Bool, true, false, ◌&&◌, ◌||◌, not, cond, List, [], ◌∷◌, ◌++◌, map, Option, Some, None, is_some, ℤ, refl, sym, ◌∙◌}
use Rattle.std.specs.List.{flat_map}
use Rattle.std.specs.Cmp.Lexicographic.{nat_list_eq_equiv, options_equiv}
use Rattle.std.specs.Str.{bytes_eq}
use Rattle.std.proofs.lemmas.Bool.{false≢true}
use Rattle.std.proofs.lemmas.Cmp.{int_eq_equiv}
use Rattle.points.specs.NameIndex.{is_among}
use Rattle.building.specs.Roster.{are_distinct}
use Rattle.building.specs.declared.named_schedule.NamedSchedule.{NamedSchedule}
use Rattle.desk_settling.specs.Settled.{Now, Shown, cleared_by, falls_quiet, is_active_now, is_due, put_by, shown_by, shows, changes_shown, value_of, written}
use Rattle.store.specs.declared.change.ShownValue.{ShownValue}
use Rattle.store.specs.Change.{with_each, with_shown}
use Rattle.points.specs.Texts.{Text}
use Rattle.deliveries.proofs.MachineLemmas.{bytes_eq-same, with_each-append}

abbrev name_of : NamedSchedule → Text
name_of s = s.name

abbrev names_of : List NamedSchedule → List Text
names_of schedules = map name_of schedules

-- what a schedule shows afterwards
after : Now → Shown → NamedSchedule → Option (Option ℤ)
after now old s = cond (is_due now old s) (Some (value_of now s)) (cond (falls_quiet now old s) None (old s.name))

-- what one schedule shows, and what it does not touch
shown-here : (now : Now) (old table : Shown) (s : NamedSchedule) → table s.name ≡ old s.name
    → with_each with_shown (shown_by now old s) table s.name ≡ after now old s
unfolding after
shown-here now old table s same = by (is_due now old s) refl (falls_quiet now old s) refl
  where
    by : (due : Bool) → is_due now old s ≡ due → (quiet : Bool) → falls_quiet now old s ≡ quiet
        → with_each with_shown (shown_by now old s) table s.name
        ≡ cond (is_due now old s) (Some (value_of now s)) (cond (falls_quiet now old s) None (old s.name))
    by true e quiet f = rw (e, bytes_eq-same s.name) refl
    by false e true f = rw (e, f, bytes_eq-same s.name) refl
    by false e false f = rw (e, f) same

shown-elsewhere : (now : Now) (old table : Shown) (s : NamedSchedule) (q : Text) → bytes_eq s.name q ≡ false
    → with_each with_shown (shown_by now old s) table q ≡ table q
shown-elsewhere now old table s q apart = by (is_due now old s) refl (falls_quiet now old s) refl
  where
    by : (due : Bool) → is_due now old s ≡ due → (quiet : Bool) → falls_quiet now old s ≡ quiet
        → with_each with_shown (shown_by now old s) table q ≡ table q
    by true e quiet f = rw (e, apart) refl
    by false e true f = rw (e, f, apart) refl
    by false e false f = rw (e, f) refl

pub or-parts : (a b : Bool) → (a || b) ≡ false → (a ≡ false) × (b ≡ false)
or-parts true b e = absurd (false≢true (sym e))
or-parts false b e = (refl, e)

pub both-parts : (a b : Bool) → (a && b) ≡ true → (a ≡ true) × (b ≡ true)
both-parts true b e = (refl, e)
both-parts false b e = absurd (false≢true e)

not-true : (a : Bool) → not a ≡ true → a ≡ false
not-true true e = absurd (false≢true e)
not-true false e = refl

-- a name that none of the schedules has
pub shown-outside : (now : Now) (old table : Shown) (schedules : List NamedSchedule) (q : Text) → is_among q (names_of schedules) ≡ false
    → with_each with_shown (flat_map (shown_by now old) schedules) table q ≡ table q
shown-outside now old table [] q outside = refl
shown-outside now old table (s ∷ rest) q outside =
    let next = with_each with_shown (shown_by now old s) table in
    let apart = or-parts (bytes_eq s.name q) (is_among q (names_of rest)) outside in
    (λ i. with_each-append with_shown (shown_by now old s) (flat_map (shown_by now old) rest) table i q)
    ∙ (shown-outside now old next rest q apart.1 ∙ shown-elsewhere now old table s q apart.0)

abbrev Each : (NamedSchedule → Type 0) → List NamedSchedule → Type 0
Each holds [] = Unit {0}
Each holds (s ∷ rest) = holds s × Each holds rest

each-of : (holds : NamedSchedule → Type 0) → ((s : NamedSchedule) → holds s) → (schedules : List NamedSchedule) → Each holds schedules
each-of holds all [] = tt
each-of holds all (s ∷ rest) = (all s, each-of holds all rest)

turned : (p q : Text) → bytes_eq p q ≡ false → bytes_eq q p ≡ false
turned p q apart = nat_list_eq_equiv.symm q p ∙ apart

still : (now : Now) (old table : Shown) (s : NamedSchedule) (rest : List NamedSchedule) → is_among s.name (names_of rest) ≡ false
    → Each (λ x. table x.name ≡ old x.name) rest → Each (λ x. with_each with_shown (shown_by now old s) table x.name ≡ old x.name) rest
still now old table s [] outside same = tt
still now old table s (x ∷ rest) outside same =
    let apart = or-parts (bytes_eq x.name s.name) (is_among s.name (names_of rest)) outside in (
      shown-elsewhere now old table s x.name (turned x.name s.name apart.0) ∙ same.0,
      still now old table s rest apart.1 same.1,
    )

-- a table that each schedule finds as it is shown
each-joined : (now : Now) (old table : Shown) (front rest : List ShownValue) (schedules : List NamedSchedule)
    → Each (λ x. with_each with_shown rest (with_each with_shown front table) x.name ≡ after now old x) schedules
    → Each (λ x. with_each with_shown (front ++ rest) table x.name ≡ after now old x) schedules
each-joined now old table front rest [] each = tt
each-joined now old table front rest (x ∷ schedules) each = (
  (λ i. with_each-append with_shown front rest table i x.name) ∙ each.0,
  each-joined now old table front rest schedules each.1,
)

-- each shows what it must
each-shows : (now : Now) (old table : Shown) (schedules : List NamedSchedule) → are_distinct (names_of schedules) ≡ true
    → Each (λ x. table x.name ≡ old x.name) schedules
    → Each (λ x. with_each with_shown (flat_map (shown_by now old) schedules) table x.name ≡ after now old x) schedules
each-shows now old table [] distinct same = tt
each-shows now old table (s ∷ rest) distinct same =
    let apart = both-parts (not (is_among s.name (names_of rest))) (are_distinct (names_of rest)) distinct in
    let outside = not-true (is_among s.name (names_of rest)) apart.0 in
    let next = with_each with_shown (shown_by now old s) table in
    let more = flat_map (shown_by now old) rest in
    each-joined now old table (shown_by now old s) more (s ∷ rest) (
      shown-outside now old next rest s.name outside ∙ shown-here now old table s same.0,
      each-shows now old next rest apart.1 (still now old table s rest outside same.1),
    )

-- one that shows what it must is neither due nor falls quiet
quiet-one : (now : Now) (old final : Shown) (s : NamedSchedule) → final s.name ≡ after now old s
    → (is_due now final s ≡ false) × (falls_quiet now final s ≡ false)
unfolding is_due falls_quiet after
quiet-one now old final s e =
    by (is_active_now now s) refl (shows (old s.name) (value_of now s)) refl (is_some (old s.name)) refl
  where
    by : (active : Bool) → is_active_now now s ≡ active → (same : Bool) → shows (old s.name) (value_of now s) ≡ same
        → (some : Bool) → is_some (old s.name) ≡ some
        → ((is_active_now now s && not (shows (final s.name) (value_of now s))) ≡ false)
        × ((not (is_active_now now s) && is_some (final s.name)) ≡ false)
    by true a true b some c =
        let stays : final s.name ≡ old s.name = e ∙ rw (a, b) refl in
        (rw (a, stays, b) refl, rw a refl)
    by true a false b some c =
        let becomes : final s.name ≡ Some (value_of now s) = e ∙ rw (a, b) refl in
        (rw (a, becomes, (options_equiv int_eq_equiv).refl (value_of now s)) refl, rw a refl)
    by false a same b true c =
        let becomes : final s.name ≡ None = e ∙ rw (a, c) refl in
        (rw a refl, rw (a, becomes) refl)
    by false a same b false c =
        let stays : final s.name ≡ old s.name = e ∙ rw (a, c) refl in
        (rw a refl, rw (a, stays, c) refl)

none-changes_shown : (now : Now) (old final : Shown) (schedules : List NamedSchedule) → Each (λ x. final x.name ≡ after now old x) schedules
    → flat_map (shown_by now final) schedules ≡ []
none-changes_shown now old final [] each = refl
none-changes_shown now old final (s ∷ rest) each =
    let quiet = quiet-one now old final s each.0 in
    rw (quiet.0, quiet.1) (none-changes_shown now old final rest each.1)

none-put : (now : Now) (old final : Shown) (schedules : List NamedSchedule) → Each (λ x. final x.name ≡ after now old x) schedules
    → flat_map (put_by now final) schedules ≡ []
none-put now old final [] each = refl
none-put now old final (s ∷ rest) each =
    let quiet = quiet-one now old final s each.0 in
    rw quiet.0 (none-put now old final rest each.1)

none-cleared : (now : Now) (old final : Shown) (schedules : List NamedSchedule) → Each (λ x. final x.name ≡ after now old x) schedules
    → flat_map (cleared_by now final) schedules ≡ []
none-cleared now old final [] each = refl
none-cleared now old final (s ∷ rest) each =
    let quiet = quiet-one now old final s each.0 in
    rw quiet.1 (none-cleared now old final rest each.1)

changes_shown-none : (now : Now) (old final : Shown) (schedules : List NamedSchedule) → Each (λ x. final x.name ≡ after now old x) schedules
    → changes_shown now final schedules ≡ []
unfolding changes_shown
changes_shown-none now old final schedules each = none-changes_shown now old final schedules each

written-none : (now : Now) (old final : Shown) (schedules : List NamedSchedule) → Each (λ x. final x.name ≡ after now old x) schedules
    → written now final schedules ≡ []
unfolding written
written-none now old final schedules each = λ i. none-cleared now old final schedules each i ++ none-put now old final schedules each i

module _ (now : Now) (shown : Shown) (schedules : List NamedSchedule) (distinct : are_distinct (names_of schedules) ≡ true) where
  each-final : Each (λ x. with_each with_shown (changes_shown now shown schedules) shown x.name ≡ after now shown x) schedules
  unfolding changes_shown
  each-final = each-shows now shown shown schedules distinct (each-of (λ x. shown x.name ≡ shown x.name) (λ x. refl) schedules)

  -- settled once, they write nothing more
  pub written-again : written now (with_each with_shown (changes_shown now shown schedules) shown) schedules ≡ []
  written-again = written-none now shown (with_each with_shown (changes_shown now shown schedules) shown) schedules each-final

  pub changes_shown-again : changes_shown now (with_each with_shown (changes_shown now shown schedules) shown) schedules ≡ []
  changes_shown-again = changes_shown-none now shown (with_each with_shown (changes_shown now shown schedules) shown) schedules each-final
