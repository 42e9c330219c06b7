-- What a skip does, and how long a run is.
use Rattle.std.proofs.Common.{◌≡◌, ℕ, ◌+◌, ◌-◌, ◌<◌, ◌≤◌, ◌==◌, Bool, true, false, cond, not, ◌&&◌, List, length, Some, None}
use Rattle.std.proofs.Common.{refl, sym, ap, ◌∙◌, subst, arith, inl, inr, nat_lt}
use Rattle.std.proofs.lemmas.Bool.Decides.{nat_tests}
use Rattle.std.proofs.lemmas.Bool.{both_ways, cases_lt}
use Rattle.points.specs.declared.numbered_row.NumberedRow.{NumberedRow}
use Rattle.points.specs.Run.{Rows, IsRun}
use Rattle.window.specs.Applied.{applied}
use Rattle.window.specs.Laws.{SkipsTo, NoRunPastWindow, is_given_up}
use Rattle.window.specs.Taken.{Ask, Command, Skip, Taken, take, taken, opening, content_in, content_at, is_key, front, accepts_skip}
use Rattle.window.specs.View.{Keeps, IsRunNeeded, run_needed}
use Rattle.window.specs.Window.{window}
use Rattle.window.proofs.AppliedLemmas.{content_in-applied}
use Rattle.window.proofs.FrontLemmas.{EndsInWindow, ends_in_window, IsFront-front}
use Rattle.window.proofs.PlanLemmas.{with_skip, take-skip_accepted, IsSkipWithin-accepted, window_positive}
use Rattle.window.proofs.RunLemmas.{Keeps-from_front, is_some-rows, length-rows_from}

-- a skip

applies-skip : (t : Taken) (u number : ℕ) → u ≤ front (with_skip t u) → front t ≤ number → number < u
    → content_in (applied t (with_skip t u)) number ≡ content_at t number
applies-skip t u number reaches least below =
    content_in-applied t (with_skip t u) number least (omega arith)

and_false : (b : Bool) → (b && false) ≡ false
and_false true = refl
and_false false = refl

gives_up-skip : (t : Taken) (u number : ℕ) → u ≤ front (with_skip t u) → front t ≤ number
    → is_given_up (with_skip t u) number ≡ (nat_lt number u && not (is_key t number))
gives_up-skip t u number reaches least =
    elim (cases_lt number u) [
      | inl below ↦
          let passed : nat_lt number (front (with_skip t u)) ≡ true = grind (arith, nat_tests) in
          let under : nat_lt number u ≡ true = grind (arith, nat_tests) in
          rw (passed, under) refl
      | inr above ↦
          let not_under : nat_lt number u ≡ false = grind (arith, nat_tests) in
          elim (cases_lt number (front (with_skip t u))) [
            | inl passed ↦
                let old = (IsFront-front t).given_up in
                let key : is_key t number ≡ true = (IsFront-front (with_skip t u)).least number (omega arith) passed in
                rw (not_under, key) (and_false (nat_lt number (front (with_skip t u))))
            | inr ahead ↦
                let not_passed : nat_lt number (front (with_skip t u)) ≡ false = grind (arith, nat_tests) in
                rw (not_under, not_passed) refl
          ]
    ]

pub SkipsTo-take : (t : Taken) (u : ℕ) → accepts_skip t u ≡ true → SkipsTo t (take t (Skip u)) u
SkipsTo-take t u accepted =
    let given_up = (IsFront-front (with_skip t u)).given_up in
    let reaches : u ≤ front (with_skip t u) = omega arith in
    subst (λ after. SkipsTo t after u) (sym (take-skip_accepted t u accepted)) (record {
      applies = λ number least below. applies-skip t u number reaches least below;
      gives_up = λ number least. gives_up-skip t u number reaches least;
    })

-- a run ends within the window
pub run_end-window : (t : Taken) (rows : Rows) (from upto : ℕ) (run : List NumberedRow) → EndsInWindow t → Keeps rows t
    → upto ≤ front t + window → (is : IsRun rows from upto run) → is.end ≤ front t + window
run_end-window t rows from upto run ends keeps within is =
    elim (cases_lt (front t + window) is.end) [
      | inl past ↦
          let last = front t + window in
          absurd (both_ways (is_key t last) (ends.none last (omega arith))
          (sym (is_some-rows rows t last (Keeps-from_front rows t last keeps (omega arith))) ∙ is.unbroken last within past))
      | inr h ↦ h
    ]

length-run : (t : Taken) (rows : Rows) (from upto : ℕ) (run : List NumberedRow) → EndsInWindow t → Keeps rows t
    → front t ≤ from → upto ≤ front t + window → IsRun rows from upto run → length run ≤ window
length-run t rows from upto run ends keeps least within is =
    let high = run_end-window t rows from upto run ends keeps within is in
    let long = ap length is.is_between in
    omega (arith, long, length-rows_from (is.end - from) rows from)

length-needed : (t : Taken) (rows : Rows) (needed : Bool) (from upto : ℕ) (run : List NumberedRow) → EndsInWindow t → Keeps rows t
    → front t ≤ from → (needed ≡ true → upto ≤ front t + window)
    → IsRunNeeded rows (cond needed (Some (record { from = from; upto = upto })) None) run → length run ≤ window
length-needed t rows true from upto run ends keeps least within is = length-run t rows from upto run ends keeps least (within refl) is
length-needed t rows false from upto run ends keeps least within none = let long = ap length none in omega arith

length-shown : (t : Taken) (ask : Ask) (rows : Rows) (run : List NumberedRow) → EndsInWindow t → Keeps rows t
    → IsRunNeeded rows (run_needed t ask) run → length run ≤ window
length-shown t (Command number content) rows run ends keeps needed =
    length-needed t rows (number == front t) (front t + 1) (front t + 1) run ends keeps (omega arith)
    (λ at. omega (arith, window_positive)) needed
length-shown t (Skip upto) rows run ends keeps needed =
    length-needed t rows (accepts_skip t upto) (front t) upto run ends keeps (omega arith)
    (λ accepted. (IsSkipWithin-accepted t upto accepted).within) needed

pub no_run_past_window : NoRunPastWindow
no_run_past_window view asks ask shows =
    length-shown (taken opening asks) ask shows.rows view.run (ends_in_window asks) shows.keeps shows.run
