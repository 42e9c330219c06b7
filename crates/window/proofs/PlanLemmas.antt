-- What a plan has to say.
use Rattle.std.proofs.Common.{◌≡◌, ◌≢◌, ℕ, suc, zero, ◌+◌, ◌-◌, ◌<◌, ◌≤◌, ◌==◌, ◌++◌, Bool, true, false, cond, not, ◌&&◌, max, List, [], ◌∷◌, Option}
use Rattle.std.proofs.Common.{Some, None, is_some, refl, sym, ap, ◌∙◌, subst, arith, inl, inr, nat_lt, nat_le}
use Rattle.std.proofs.lemmas.Bool.Decides.{nat_tests}
use Rattle.std.proofs.lemmas.Bool.{cases_order, false≢true}
use Rattle.points.specs.declared.content.Content.{Content}
use Rattle.points.specs.declared.command_row.CommandRow.{CommandRow}
use Rattle.points.specs.declared.numbered_row.NumberedRow.{NumberedRow}
use Rattle.points.specs.Run.{Rows, IsRun}
use Rattle.window.specs.declared.numbered_content.NumberedContent.{NumberedContent}
use Rattle.window.specs.declared.plan.Plan.{Plan}
use Rattle.window.specs.declared.verdict.Verdict.{Verdict}
use Rattle.window.specs.declared.verdict.Verdict.TheVariants.{TooFar, SkipDone}
use Rattle.window.specs.Applied.{applied, and_at, contents_from}
use Rattle.window.specs.Drain.{contents_of, end_of}
use Rattle.window.specs.Plan.{Plans}
use Rattle.window.specs.Taken.{Ask, Command, Skip, Taken, take, content_at, is_key, front, accepts, accepts_skip, with_command}
use Rattle.window.specs.Verdict.{verdict_of}
use Rattle.window.specs.View.{Keeps}
use Rattle.window.specs.Window.{window}
use Rattle.window.proofs.FrontLemmas.{IsFront-front, front-is, key_new, key_other, key_stays, take-accepted, take-refused}
use Rattle.window.proofs.RunLemmas.{end_of-run, contents_of-rows_from, Keeps-from_front, is_some-rows}

pub window_positive : 0 < window
unfolding window
window_positive = omega arith

accepts_at : (key : Bool) (f n w : ℕ) → key ≡ false → f ≤ n → n < f + w → (not key && (nat_le f n && nat_lt n (f + w))) ≡ true
accepts_at true f n w e from below = absurd (false≢true (sym e))
accepts_at false f n w e from below = grind (arith, nat_tests)

-- a number that is missing, from the front on and within the window, is accepted
pub accepts-missing : (t : Taken) (n : ℕ) → is_key t n ≡ false → front t ≤ n → n < front t + window → accepts t n ≡ true
accepts-missing t n missing from below = accepts_at (is_key t n) (front t) n window missing from below

-- the number of the front is accepted
pub accepts-front : (t : Taken) → accepts t (front t) ≡ true
accepts-front t = accepts-missing t (front t) (IsFront-front t).missing (omega arith) (omega (arith, window_positive))

pub accepts-key : (t : Taken) (n : ℕ) → is_key t n ≡ true → accepts t n ≡ false
accepts-key t n key = rw key refl

refused_below : (key : Bool) (f n w : ℕ) → n < f → (not key && (nat_le f n && nat_lt n (f + w))) ≡ false
refused_below true f n w below = refl
refused_below false f n w below = grind (arith, nat_tests)

pub accepts-below : (t : Taken) (n : ℕ) → n < front t → accepts t n ≡ false
accepts-below t n below = refused_below (is_key t n) (front t) n window below

refused_past : (key : Bool) (f n w : ℕ) → f + w ≤ n → (not key && (nat_le f n && nat_lt n (f + w))) ≡ false
refused_past true f n w past = refl
refused_past false f n w past = grind (arith, nat_tests)

pub accepts-past : (t : Taken) (n : ℕ) → front t + window ≤ n → accepts t n ≡ false
accepts-past t n past = refused_past (is_key t n) (front t) n window past

pub content_new : (t : Taken) (n : ℕ) (content : Content) → content_at (with_command t n content) n ≡ Some content
content_new t n content = let same : (n == n) ≡ true = grind (arith, nat_tests) in rw same refl

pub content_other : (t : Taken) (m n : ℕ) (content : Content) → m ≢ n → content_at (with_command t m content) n ≡ content_at t n
content_other t m n content apart = let other : (m == n) ≡ false = grind (arith, nat_tests) in rw other refl

-- the command at the front

-- the front moves to the end of the run that follows
pub front-command : (t : Taken) (content : Content) (rows : Rows) (run : List NumberedRow) → Keeps rows t
    → (is : IsRun rows (front t + 1) (front t + 1) run) → front (with_command t (front t) content) ≡ is.end
front-command t content rows run keeps is =
    let old = IsFront-front t in
    let reaches = is.reaches in
    front-is (with_command t (front t) content) is.end (record {
      given_up = let below = old.given_up in omega arith;
      missing =
          let apart : front t ≢ is.end = omega arith in
          let gap = sym (is_some-rows rows t is.end (Keeps-from_front rows t is.end keeps (omega arith))) ∙ ap is_some is.gap in
          key_other t (front t) is.end content apart gap;
      least = λ n from below. elim (cases_order n (front t)) [
        | inl same ↦ subst (λ m. is_key (with_command t (front t) content) m ≡ true) (sym same) (key_new t (front t) content)
        | inr apart ↦ elim apart [
          | inl under ↦ key_stays t (front t) n content (old.least n from under)
          | inr above ↦ key_stays t (front t) n content
              (sym (is_some-rows rows t n (Keeps-from_front rows t n keeps (omega arith))) ∙ is.unbroken n (omega arith) below)
        ]
      ];
    })

one_more : (end f : ℕ) → f + 1 ≤ end → end - f ≡ suc (end - (f + 1))
one_more end f above = omega arith

pub contents_from-new : (count : ℕ) (t : Taken) (n : ℕ) (content : Content) → content_at t n ≡ Some content
    → contents_from (suc count) t n ≡ record { number = n; content = content } ∷ contents_from count t (n + 1)
contents_from-new count t n content found = rw found refl

-- it is applied, and the run after it
pub applied-command : (t : Taken) (content : Content) (rows : Rows) (run : List NumberedRow) → Keeps rows t
    → IsRun rows (front t + 1) (front t + 1) run
    → applied t (with_command t (front t) content) ≡ record { number = front t; content = content } ∷ contents_of run
unfolding applied
applied-command t content rows run keeps is =
    let new = with_command t (front t) content in
    let reaches = is.reaches in
    let count = is.end - (front t + 1) in
    ap (λ end. contents_from (end - front t) new (front t)) (front-command t content rows run keeps is)
    ∙ (ap (λ more. contents_from more new (front t)) (one_more is.end (front t) reaches)
    ∙ (contents_from-new count new (front t) content (content_new t (front t) content)
    ∙ ap (λ rest. record { number = front t; content = content } ∷ rest)
    (sym (ap contents_of is.is_between ∙ contents_of-rows_from count rows new (front t + 1) (λ n from.
    let apart : front t ≢ n = omega arith in
    Keeps-from_front rows t n keeps (omega arith) ∙ sym (content_other t (front t) n content apart))))))

-- a skip

pub accepts_skip-within : (t : Taken) (u : ℕ) → front t < u → u ≤ front t + window → accepts_skip t u ≡ true
accepts_skip-within t u above within = grind (arith, nat_tests)

pub record IsSkipWithin (t : Taken) (u : ℕ) : Type 0 where
  pub above : front t < u
  pub within : u ≤ front t + window

pub IsSkipWithin-accepted : (t : Taken) (u : ℕ) → accepts_skip t u ≡ true → IsSkipWithin t u
IsSkipWithin-accepted t u accepted = record { above = grind (arith, nat_tests); within = grind (arith, nat_tests) }

abbrev pub with_skip : Taken → ℕ → Taken
with_skip t u = record { accepted = t.accepted; upto = max t.upto u }

pub take-skip_accepted : (t : Taken) (u : ℕ) → accepts_skip t u ≡ true → take t (Skip u) ≡ with_skip t u
unfolding take
take-skip_accepted t u accepted = rw accepted refl

pub take-skip_refused : (t : Taken) (u : ℕ) → accepts_skip t u ≡ false → take t (Skip u) ≡ t
unfolding take
take-skip_refused t u refused = rw refused refl

pub accepts_skip-not_above : (t : Taken) (u : ℕ) → u ≤ front t → accepts_skip t u ≡ false
accepts_skip-not_above t u below = grind (arith, nat_tests)

pub accepts_skip-past : (t : Taken) (u : ℕ) → front t + window < u → accepts_skip t u ≡ false
accepts_skip-past t u past = grind (arith, nat_tests)

-- the front moves to the end of the run over the numbers that it passes
pub front-skip : (t : Taken) (u : ℕ) (rows : Rows) (run : List NumberedRow) → Keeps rows t → front t < u
    → (is : IsRun rows (front t) u run) → front (with_skip t u) ≡ is.end
front-skip t u rows run keeps above is =
    let old = IsFront-front t in
    let given_up = old.given_up in
    let reaches = is.reaches in
    front-is (with_skip t u) is.end (record {
      given_up = omega arith;
      missing = sym (is_some-rows rows t is.end (Keeps-from_front rows t is.end keeps (omega arith))) ∙ ap is_some is.gap;
      least =
          λ n from below. sym (is_some-rows rows t n (Keeps-from_front rows t n keeps (omega arith))) ∙ is.unbroken n (omega arith) below;
    })

-- what was accepted under a number stays under it
pub contents_from-skip : (count : ℕ) (t : Taken) (u n : ℕ) → contents_from count (with_skip t u) n ≡ contents_from count t n
contents_from-skip zero t u n = refl
contents_from-skip (suc count) t u n = ap (and_at n (content_at t n)) (contents_from-skip count t u (n + 1))

pub applied-skip : (t : Taken) (u : ℕ) (rows : Rows) (run : List NumberedRow) → Keeps rows t → front t < u
    → IsRun rows (front t) u run → applied t (with_skip t u) ≡ contents_of run
unfolding applied
applied-skip t u rows run keeps above is =
    ap (λ end. contents_from (end - front t) (with_skip t u) (front t)) (front-skip t u rows run keeps above is)
    ∙ (contents_from-skip (is.end - front t) t u (front t)
    ∙ sym (ap contents_of is.is_between
    ∙ contents_of-rows_from (is.end - front t) rows t (front t) (λ n from. Keeps-from_front rows t n keeps from)))

-- a number past the front leaves the front
pub front-parked : (t : Taken) (n : ℕ) (content : Content) → front t < n → front (with_command t n content) ≡ front t
front-parked t n content past =
    let old = IsFront-front t in
    front-is (with_command t n content) (front t) (record {
      given_up = old.given_up;
      missing = let apart : n ≢ front t = omega arith in key_other t n (front t) content apart old.missing;
      least = λ m from below. key_stays t n m content (old.least m from below);
    })

none_from : (count : ℕ) (t : Taken) (n : ℕ) → count ≡ 0 → contents_from count t n ≡ []
none_from count t n none = rw none refl

-- where the front stays nothing is applied
pub applied-same_front : (old new : Taken) → front new ≡ front old → applied old new ≡ []
unfolding applied
applied-same_front old new same = none_from (front new - front old) new (front old) (omega arith)

-- plans

parked_when : (accepted past : Bool) (entry : NumberedContent) → (accepted && past) ≡ false
    → cond (accepted && past) (Some entry) None ≡ None
parked_when accepted past entry not_both = rw not_both refl

and_false : (accepted past : Bool) → accepted ≡ false → (accepted && past) ≡ false
and_false accepted past refused = rw refused refl

not_past : (accepted : Bool) (f n : ℕ) → n ≤ f → (accepted && nat_lt f n) ≡ false
not_past true f n low = grind (arith, nat_tests)
not_past false f n low = refl

pub Plans-applies : (t : Taken) (n : ℕ) (content : Content) (asked : Option CommandRow) (rows : Rows) (run : List NumberedRow)
    (verdict : Verdict)
    → Keeps rows t → n ≡ front t → IsRun rows (front t + 1) (front t + 1) run → verdict ≡ verdict_of t (Command n content) asked
    → Plans t (Command n content) asked
    (record {
      next = end_of (n + 1) run;
      apply = (record { number = n; content = content } ∷ []) ++ contents_of run;
      park = None;
      verdict = verdict;
    })
Plans-applies t n content asked rows run verdict keeps same is said =
    let grown = ap (λ m. take t (Command m content)) same ∙ take-accepted t (front t) content (accepts-front t) in
    record {
      next = ap (λ m. end_of (m + 1) run) same
          ∙ (end_of-run rows (front t + 1) (front t + 1) run (omega arith) is
          ∙ sym (ap front grown ∙ front-command t content rows run keeps is));
      apply = ap (λ (m : ℕ). record { number = m; content = content } ∷ contents_of run) same
          ∙ sym (ap (applied t) grown ∙ applied-command t content rows run keeps is);
      park = sym (parked_when (accepts t n) (nat_lt (front t) n) _ (not_past (accepts t n) (front t) n (omega arith)));
      verdict = said;
    }

pub Plans-parked : (t : Taken) (n : ℕ) (content : Content) (asked : Option CommandRow) (verdict : Verdict)
    → accepts t n ≡ true → front t < n → verdict ≡ verdict_of t (Command n content) asked
    → Plans t (Command n content) asked
    (record { next = front t; apply = []; park = Some (record { number = n; content = content }); verdict = verdict })
Plans-parked t n content asked verdict accepted past said =
    let grown = take-accepted t n content accepted in
    let stays = ap front grown ∙ front-parked t n content past in
    let above : nat_lt (front t) n ≡ true = grind (arith, nat_tests) in
    record {
      next = sym stays;
      apply = sym (applied-same_front t (take t (Command n content)) stays);
      park = rw (accepted, above) refl;
      verdict = said;
    }

pub Plans-refused : (t : Taken) (n : ℕ) (content : Content) (asked : Option CommandRow) (verdict : Verdict)
    → accepts t n ≡ false → verdict ≡ verdict_of t (Command n content) asked
    → Plans t (Command n content) asked (record { next = front t; apply = []; park = None; verdict = verdict })
Plans-refused t n content asked verdict refused said =
    let same = take-refused t n content refused in
    record {
      next = sym (ap front same);
      apply = sym (applied-same_front t (take t (Command n content)) (ap front same));
      park = sym (parked_when (accepts t n) (nat_lt (front t) n) _ (and_false (accepts t n) (nat_lt (front t) n) refused));
      verdict = said;
    }

skip_done : (t : Taken) (u : ℕ) (asked : Option CommandRow) → u ≤ front t + window → SkipDone ≡ verdict_of t (Skip u) asked
skip_done t u asked within = let near : nat_lt (front t + window) u ≡ false = grind (arith, nat_tests) in rw near refl

too_far : (t : Taken) (u : ℕ) (asked : Option CommandRow) → front t + window < u → TooFar ≡ verdict_of t (Skip u) asked
too_far t u asked past = let far : nat_lt (front t + window) u ≡ true = grind (arith, nat_tests) in rw far refl

pub Plans-skips : (t : Taken) (u : ℕ) (asked : Option CommandRow) (rows : Rows) (run : List NumberedRow)
    → Keeps rows t → front t < u → u ≤ front t + window → IsRun rows (front t) u run
    → Plans t (Skip u) asked (record { next = end_of u run; apply = contents_of run; park = None; verdict = SkipDone })
Plans-skips t u asked rows run keeps above within is =
    let grown = take-skip_accepted t u (accepts_skip-within t u above within) in
    record {
      next = end_of-run rows (front t) u run (omega arith) is ∙ sym (ap front grown ∙ front-skip t u rows run keeps above is);
      apply = sym (ap (applied t) grown ∙ applied-skip t u rows run keeps above is);
      park = refl;
      verdict = skip_done t u asked within;
    }

Plans-same : (t : Taken) (u : ℕ) (asked : Option CommandRow) (verdict : Verdict) → accepts_skip t u ≡ false
    → verdict ≡ verdict_of t (Skip u) asked
    → Plans t (Skip u) asked (record { next = front t; apply = []; park = None; verdict = verdict })
Plans-same t u asked verdict refused said =
    let same = take-skip_refused t u refused in
    record {
      next = sym (ap front same);
      apply = sym (applied-same_front t (take t (Skip u)) (ap front same));
      park = refl;
      verdict = said;
    }

pub Plans-not_above : (t : Taken) (u : ℕ) (asked : Option CommandRow) → u ≤ front t
    → Plans t (Skip u) asked (record { next = front t; apply = []; park = None; verdict = SkipDone })
Plans-not_above t u asked low = Plans-same t u asked SkipDone (accepts_skip-not_above t u low) (skip_done t u asked (omega arith))

pub Plans-too_far : (t : Taken) (u : ℕ) (asked : Option CommandRow) → front t + window < u
    → Plans t (Skip u) asked (record { next = front t; apply = []; park = None; verdict = TooFar })
Plans-too_far t u asked past = Plans-same t u asked TooFar (accepts_skip-past t u past) (too_far t u asked past)

-- a plan, by its parts
pub Plans-reported : (t : Taken) (ask : Ask) (asked : Option CommandRow) (plan reported : Plan) → plan ≡ reported
    → Plans t ask asked reported → Plans t ask asked plan
Plans-reported t ask asked plan reported same plans = subst (λ p. Plans t ask asked p) (sym same) plans

-- a plan whose next number is the front
pub Plans-from_front : (t : Taken) (ask : Ask) (asked : Option CommandRow) (next : ℕ) (apply : List NumberedContent)
    (park : Option NumberedContent) (verdict : Verdict) → next ≡ front t
    → Plans t ask asked (record { next = front t; apply = apply; park = park; verdict = verdict })
    → Plans t ask asked (record { next = next; apply = apply; park = park; verdict = verdict })
Plans-from_front t ask asked next apply park verdict same plans =
    subst (λ (n : ℕ). Plans t ask asked (record { next = n; apply = apply; park = park; verdict = verdict })) (sym same) plans

-- a plan, by what was drained: the contents before a run, and the run
pub Plans-drained : (t : Taken) (ask : Ask) (asked : Option CommandRow) (plan : Plan) (upto : ℕ) (contents before : List NumberedContent)
    (drained run : List NumberedRow) (verdict : Verdict)
    → plan ≡ record { next = end_of upto drained; apply = contents ++ contents_of drained; park = None; verdict = verdict }
    → contents ≡ before → drained ≡ run
    → Plans t ask asked (record { next = end_of upto run; apply = before ++ contents_of run; park = None; verdict = verdict })
    → Plans t ask asked plan
Plans-drained t ask asked plan upto contents before drained run verdict is began read plans =
    Plans-reported t ask asked plan _ (is ∙ λ i. record {
      next = end_of upto (read i);
      apply = began i ++ contents_of (read i);
      park = None;
      verdict = verdict;
    }) plans

-- one content pushed behind none
pub first_pushed : (before contents : List NumberedContent) (entry reported : NumberedContent) → contents ≡ before ++ entry ∷ [] → before ≡ []
    → entry ≡ reported → contents ≡ reported ∷ []
first_pushed before contents entry reported pushed none same =
    pushed ∙ (ap (λ first. first ++ entry ∷ []) none ∙ ap (λ (e : NumberedContent). e ∷ []) same)
