-- One schedule more, in the table of authors.
use Rattle.std.proofs.Common.{◌≡◌, ℕ, ℤ, Bool, true, false, ◌&&◌, ◌||◌, cond, List, ◌∷◌, ◌++◌, Option, Some, None, []}
use Rattle.std.proofs.Common.{refl, sym, ap, ◌∙◌}
use Rattle.std.specs.List.{list_any}
use Rattle.std.proofs.lemmas.List.Folds.{list_any-append}
use Rattle.building.specs.declared.named_schedule.NamedSchedule.{NamedSchedule}
use Rattle.desk_settling.specs.Settled.{Now, Shown, falls_quiet, is_due, releases}
use Rattle.deliveries.specs.SettlingLaws.{is_due_at, last_of, leaves_at, or_else, targets}
use Rattle.points.specs.Texts.{Text}
use Rattle.desk_why.specs.declared.author.Held.{Held}
use Rattle.desk_why.specs.declared.author.Settling.{Settling}
use Rattle.desk_why.specs.declared.authors.Authors.{Authors}
use Rattle.desk_why.specs.AuthorsTable.{held_in}
use Rattle.desk_why.specs.Settling.{held_by_schedule, held_or}
use Rattle.desk_why.specs.Steps.{Becomes, put_where}

last_of-push : (test : NamedSchedule → Bool) (xs : List NamedSchedule) (x : NamedSchedule)
    → last_of test (xs ++ x ∷ []) ≡ or_else (cond (test x) (Some x) None) (last_of test xs)
last_of-push test [] x = by (test x) refl
  where
    by : (b : Bool) → test x ≡ b → cond (test x) (Some x) None ≡ or_else (cond (test x) (Some x) None) None
    by true e = rw e refl
    by false e = rw e refl
last_of-push test (y ∷ xs) x =
    ap (λ found. or_else found (cond (test y) (Some y) None)) (last_of-push test xs x)
    ∙ by (cond (test x) (Some x) None) (last_of test xs) (cond (test y) (Some y) None)
  where
    by : (a b c : Option NamedSchedule) → or_else (or_else a b) c ≡ or_else a (or_else b c)
    by (Some s) b c = refl
    by None b c = refl

-- ---- one schedule, which shows what was read

and_assoc : (a b c : Bool) → (a && (b && c)) ≡ ((a && b) && c)
and_assoc true b c = refl
and_assoc false b c = refl

pub leaves-read : (now : Now) (shown : Shown) (s : NamedSchedule) (read : Option (Option ℤ)) → read ≡ shown s.name
    → (point : Text) (priority : ℕ)
    → leaves_at now shown point priority s ≡ ((falls_quiet now (λ name. read) s && releases s.on_leave) && targets point priority s)
unfolding falls_quiet
leaves-read now shown s read is point priority =
    ap (λ (value : Option (Option ℤ)). falls_quiet now (λ name. value) s && (releases s.on_leave && targets point priority s)) (sym is)
    ∙ and_assoc (falls_quiet now (λ name. read) s) (releases s.on_leave) (targets point priority s)

pub due-read : (now : Now) (shown : Shown) (s : NamedSchedule) (read : Option (Option ℤ)) → read ≡ shown s.name
    → (point : Text) (priority : ℕ) → is_due_at now shown point priority s ≡ (is_due now (λ name. read) s && targets point priority s)
unfolding is_due
due-read now shown s read is point priority =
    ap (λ (value : Option (Option ℤ)). is_due now (λ name. value) s && targets point priority s) (sym is)

-- what a test puts that is passed here, where something is done, or nowhere
module _ (yes : Bool) (test here : Text → ℕ → Bool) (put : Option Held)
    (is : (point : Text) (priority : ℕ) → test point priority ≡ (yes && here point priority)) where
  pub put-done : (old new : Authors) → yes ≡ true → Becomes (put_where here put) old new → Becomes (put_where test put) old new
  put-done old new done becomes = λ point priority.
      becomes point priority
      ∙ ap (λ (b : Bool). cond b put (held_in old point priority))
      (sym (is point priority ∙ ap (λ (b : Bool). b && here point priority) done))

  pub put-not : (old : Authors) → yes ≡ false → Becomes (put_where test put) old old
  put-not old not_done = λ point priority.
      ap (λ (b : Bool). cond b put (held_in old point priority))
      (sym (is point priority ∙ ap (λ (b : Bool). b && here point priority) not_done))

-- ---- one schedule more, by a test for each place

module _ (test : Text → ℕ → NamedSchedule → Bool) (xs more : List NamedSchedule) (s : NamedSchedule) (is : more ≡ xs ++ s ∷ [])
    (old mid new : Authors) where
  any-push : (point : Text) (priority : ℕ)
      → list_any (test point priority) more ≡ (list_any (test point priority) xs || test point priority s)
  any-push point priority =
      ap (list_any (test point priority)) is
      ∙ (list_any-append (test point priority) xs (s ∷ [])
      ∙ ap (λ b. list_any (test point priority) xs || b) (or_false (test point priority s)))
    where
      or_false : (b : Bool) → (b || false) ≡ b
      or_false true = refl
      or_false false = refl

  pub left-more : Becomes (put_where (λ point priority. list_any (test point priority) xs) None) old mid
      → Becomes (put_where (λ point priority. test point priority s) None) mid new
      → Becomes (put_where (λ point priority. list_any (test point priority) more) None) old new
  left-more so_far leaves = λ point priority.
      leaves point priority
      ∙ (ap (cond (test point priority s) None) (so_far point priority)
      ∙ (by (test point priority s) (list_any (test point priority) xs) (held_in old point priority)
      ∙ ap (λ (b : Bool). cond b None (held_in old point priority)) (sym (any-push point priority))))
    where
      by : (here before : Bool) (held : Option Held) → cond here None (cond before None held) ≡ cond (before || here) None held
      by true true held = refl
      by true false held = refl
      by false true held = refl
      by false false held = refl

  pub put-more : (now : Now) (settling : Settling)
      → Becomes (λ point priority held. held_or now settling (last_of (test point priority) xs) held) old mid
      → Becomes (put_where (λ point priority. test point priority s) (held_by_schedule now settling s)) mid new
      → Becomes (λ point priority held. held_or now settling (last_of (test point priority) more) held) old new
  put-more now settling so_far puts = λ point priority.
      puts point priority
      ∙ (ap (cond (test point priority s) (held_by_schedule now settling s)) (so_far point priority)
      ∙ (by (test point priority s) (last_of (test point priority) xs) (held_in old point priority)
      ∙ ap (λ (found : Option NamedSchedule). held_or now settling found (held_in old point priority))
      (sym (ap (last_of (test point priority)) is ∙ last_of-push (test point priority) xs s))))
    where
      by : (here : Bool) (last : Option NamedSchedule) (held : Option Held)
          → cond here (held_by_schedule now settling s) (held_or now settling last held)
          ≡ held_or now settling (or_else (cond here (Some s) None) last) held
      by true last held = refl
      by false last held = refl
