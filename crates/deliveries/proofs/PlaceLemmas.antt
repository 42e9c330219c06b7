-- What a place holds after values were put one after the other.
use Rattle.std.proofs.Common.{◌≡◌, ℕ, ℤ, Bool, true, false, ◌&&◌, ◌||◌, ◌==◌, cond, List, [], ◌∷◌, ◌++◌, map, Option, Some, None}
use Rattle.std.proofs.Common.{refl, sym, ap, ◌∙◌, arith}
use Rattle.std.specs.FinMap.{get, get-insert, get-remove}
use Rattle.std.specs.Cmp.{nat_cmp_total}
use Rattle.std.specs.List.{flat_map, list_any}
use Rattle.std.specs.Ordering.{eq_by_cmp, nat_cmp}
use Rattle.std.specs.Str.{bytes_eq}
use Rattle.std.proofs.lemmas.Bool.Decides.{nat_tests}
use Rattle.building.specs.declared.named_schedule.NamedSchedule.{NamedSchedule}
use Rattle.points.specs.PriorityArray.{Places, put}
use Rattle.desk_settling.specs.Settled.{Now, Shown, at_each_target, cleared_by, falls_quiet, is_due, put_by, releases, value_of}
use Rattle.desk_settling.specs.Settled.{written}
use Rattle.store.specs.declared.change.PlaceValue.{PlaceValue}
use Rattle.store.specs.Change.{with_each, with_place}
use Rattle.points.specs.Texts.{Text}
use Rattle.deliveries.specs.SettlingLaws.{held_after, is_due_at, last_of, leaves_at, or_else, targets, value_or}

-- what a place holds after items
abbrev puts : Text → ℕ → List PlaceValue → Option ℤ → Option ℤ
puts point priority [] held = held
puts point priority (item ∷ items) held =
    puts point priority items (cond (item.priority == priority && bytes_eq item.point point) item.value held)

tied : (q k : ℕ) → eq_by_cmp nat_cmp q k ≡ (k == q)
tied q k = grind (arith, nat_tests)

get-put : (places : Places) (k q : ℕ) (value : Option ℤ) → get (put places k value) q ≡ cond (k == q) value (get places q)
get-put places k q None = get-remove nat_cmp_total places k q ∙ ap (λ same. cond same None (get places q)) (tied q k)
get-put places k q (Some value) = get-insert nat_cmp_total places k value q ∙ ap (λ same. cond same (Some value) (get places q)) (tied q k)

get-with_place : (item : PlaceValue) (places : Text → Places) (point : Text) (priority : ℕ)
    → get (with_place item places point) priority
    ≡ cond (item.priority == priority && bytes_eq item.point point) item.value (get (places point) priority)
get-with_place item places point priority = by (bytes_eq item.point point) refl
  where
    and_false : (b : Bool) → (b && false) ≡ false
    and_false true = refl
    and_false false = refl

    and_true : (b : Bool) → (b && true) ≡ b
    and_true true = refl
    and_true false = refl

    by : (here : Bool) → bytes_eq item.point point ≡ here → get (with_place item places point) priority
        ≡ cond (item.priority == priority && bytes_eq item.point point) item.value (get (places point) priority)
    by true e = rw e (get-put (places point) item.priority priority item.value
        ∙ ap (λ same. cond same item.value (get (places point) priority)) (sym (and_true (item.priority == priority))))
    by false e = rw e (ap (λ same. cond same item.value (get (places point) priority)) (sym (and_false (item.priority == priority))))

get-puts : (items : List PlaceValue) (places : Text → Places) (point : Text) (priority : ℕ)
    → get (with_each with_place items places point) priority ≡ puts point priority items (get (places point) priority)
get-puts [] places point priority = refl
get-puts (item ∷ items) places point priority =
    get-puts items (with_place item places) point priority
    ∙ ap (puts point priority items) (get-with_place item places point priority)

puts-append : (point : Text) (priority : ℕ) (xs ys : List PlaceValue) (held : Option ℤ)
    → puts point priority (xs ++ ys) held ≡ puts point priority ys (puts point priority xs held)
puts-append point priority [] ys held = refl
puts-append point priority (x ∷ xs) ys held =
    puts-append point priority xs ys (cond (x.priority == priority && bytes_eq x.point point) x.value held)

-- ---- one schedule

abbrev item_of : ℕ → Option ℤ → Text → PlaceValue
item_of at value target = record { point = target; priority = at; value = value }

either_target : (same here rest : Bool) (value held : Option ℤ)
    → cond (same && rest) value (cond (same && here) value held) ≡ cond (same && (here || rest)) value held
either_target true true true value held = refl
either_target true true false value held = refl
either_target true false true value held = refl
either_target true false false value held = refl
either_target false here rest value held = refl

no_target : (same : Bool) (value held : Option ℤ) → held ≡ cond (same && false) value held
no_target true value held = refl
no_target false value held = refl

puts-targets : (point : Text) (priority at : ℕ) (value : Option ℤ) (names : List Text) (held : Option ℤ)
    → puts point priority (map (item_of at value) names) held
    ≡ cond (at == priority && list_any (λ target. bytes_eq target point) names) value held
puts-targets point priority at value [] held = no_target (at == priority) value held
puts-targets point priority at value (name ∷ names) held =
    puts-targets point priority at value names (cond (at == priority && bytes_eq name point) value held)
    ∙ either_target (at == priority) (bytes_eq name point) (list_any (λ target. bytes_eq target point) names) value held

puts-each_target : (point : Text) (priority : ℕ) (value : Option ℤ) (s : NamedSchedule) (held : Option ℤ)
    → puts point priority (at_each_target value s) held ≡ cond (targets point priority s) value held
puts-each_target point priority value s held = puts-targets point priority s.priority value s.targets held

puts-put_by : (now : Now) (shown : Shown) (point : Text) (priority : ℕ) (s : NamedSchedule) (held : Option ℤ)
    → puts point priority (put_by now shown s) held ≡ cond (is_due_at now shown point priority s) (value_of now s) held
puts-put_by now shown point priority s held = by (is_due now shown s) refl
  where
    by : (due : Bool) → is_due now shown s ≡ due
        → puts point priority (put_by now shown s) held ≡ cond (is_due now shown s && targets point priority s) (value_of now s) held
    by true e = rw e (puts-each_target point priority (value_of now s) s held)
    by false e = rw e refl

puts-cleared_by : (now : Now) (shown : Shown) (point : Text) (priority : ℕ) (s : NamedSchedule) (held : Option ℤ)
    → puts point priority (cleared_by now shown s) held ≡ cond (leaves_at now shown point priority s) None held
puts-cleared_by now shown point priority s held = by (falls_quiet now shown s) refl (releases s.on_leave) refl
  where
    by : (quiet : Bool) → falls_quiet now shown s ≡ quiet → (release : Bool) → releases s.on_leave ≡ release
        → puts point priority (cleared_by now shown s) held
        ≡ cond (falls_quiet now shown s && (releases s.on_leave && targets point priority s)) None held
    by true e true f = rw (e, f) (puts-each_target point priority None s held)
    by true e false f = rw (e, f) refl
    by false e release f = rw e refl

-- ---- all of them

last-value : (now : Now) (found : Option NamedSchedule) (due : Bool) (s : NamedSchedule) (held : Option ℤ)
    → value_or now found (cond due (value_of now s) held) ≡ value_or now (or_else found (cond due (Some s) None)) held
last-value now (Some last) due s held = refl
last-value now None true s held = refl
last-value now None false s held = refl

puts-due : (now : Now) (shown : Shown) (point : Text) (priority : ℕ) (schedules : List NamedSchedule) (held : Option ℤ)
    → puts point priority (flat_map (put_by now shown) schedules) held
    ≡ value_or now (last_of (is_due_at now shown point priority) schedules) held
puts-due now shown point priority [] held = refl
puts-due now shown point priority (s ∷ rest) held =
    puts-append point priority (put_by now shown s) (flat_map (put_by now shown) rest) held
    ∙ (puts-due now shown point priority rest (puts point priority (put_by now shown s) held)
    ∙ (ap (value_or now (last_of (is_due_at now shown point priority) rest)) (puts-put_by now shown point priority s held)
    ∙ last-value now (last_of (is_due_at now shown point priority) rest) (is_due_at now shown point priority s) s held))

any_left : (rest here : Bool) (held : Option ℤ) → cond rest None (cond here None held) ≡ cond (here || rest) None held
any_left true true held = refl
any_left true false held = refl
any_left false true held = refl
any_left false false held = refl

puts-left : (now : Now) (shown : Shown) (point : Text) (priority : ℕ) (schedules : List NamedSchedule) (held : Option ℤ)
    → puts point priority (flat_map (cleared_by now shown) schedules) held
    ≡ cond (list_any (leaves_at now shown point priority) schedules) None held
puts-left now shown point priority [] held = refl
puts-left now shown point priority (s ∷ rest) held =
    puts-append point priority (cleared_by now shown s) (flat_map (cleared_by now shown) rest) held
    ∙ (puts-left now shown point priority rest (puts point priority (cleared_by now shown s) held)
    ∙ (ap (cond (list_any (leaves_at now shown point priority) rest) None) (puts-cleared_by now shown point priority s held)
    ∙ any_left (list_any (leaves_at now shown point priority) rest) (leaves_at now shown point priority s) held))

pub each-place_holds : (now : Now) (shown : Shown) (schedules : List NamedSchedule) (places : Text → Places) (point : Text) (priority : ℕ)
    → get (with_each with_place (written now shown schedules) places point) priority
    ≡ held_after now shown schedules point priority (get (places point) priority)
unfolding written
each-place_holds now shown schedules places point priority =
    let held = get (places point) priority in
    let clears = flat_map (cleared_by now shown) schedules in
    let puts_all = flat_map (put_by now shown) schedules in
    get-puts (clears ++ puts_all) places point priority
    ∙ (puts-append point priority clears puts_all held
    ∙ (puts-due now shown point priority schedules (puts point priority clears held)
    ∙ ap (value_or now (last_of (is_due_at now shown point priority) schedules)) (puts-left now shown point priority schedules held)))
