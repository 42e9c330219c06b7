-- Steps of a transaction, one after the other.
use Rattle.std.proofs.Common.{◌≡◌, true, ℕ, zero, suc, ◌+◌, ◌<◌, ◌≤◌, List, [], ◌∷◌, drop, take, length, get_or, Ok, Err, Result, IfErr, OnOk, true≢false, refl, sym, subst, ap, ◌∙◌, arith, add-one, drop-cons}
use Rattle.std.proofs.lemmas.List.{take-append-drop}
use Rattle.sqlite_trees.specs.Tree.{Trees}
use Rattle.sqlite.specs.declared.error.Error.{Error}
use Rattle.sqlite.specs.declared.error.Error.TheVariants.{SqliteFailure}
use Rattle.sqlite.specs.declared.error.ErrorCode.TheVariants.{ConstraintViolation}
use Rattle.sqlite.specs.Effect.{Database}
use Rattle.sqlite_schema.specs.declared.schema.Constraint.TheVariants.{Unique}
use Rattle.std.specs.Borrow.{MutBor}
use Rattle.std.specs.Result.{IsErr}
use Rattle.sqlite_trees.specs.declared.store.Store.{Ghosts}
use Rattle.sqlite.specs.Held.{Held, state}
use Rattle.sqlite.specs.State.{HasCleanDisk, State, Survives}
use Rattle.sqlite.proofs.InsideLemmas.{keeps_then}
use Rattle.sqlite.proofs.StateLemmas.{survives_then}
use Rattle.store.specs.Change.{with_each}
use Rattle.store.specs.Tables.{Tables}
use Rattle.store_sql_rows.specs.Broken.{Keeps}
use Rattle.store_sql_rows.specs.Looking.{Stays}
use Rattle.store_sql_rows.specs.Stored.{Kept, is_sound_in, tables_in}
use Rattle.store_sql_rows.specs.Ours.{Changes, IsInside, IsOurs, Makes, kept_in}
use Rattle.store_sql_rows.specs.Steps.{Moves, MovesBy, StaysIfTaken, Steps, StepsBy, Turns}
use Rattle.store_sql_rows.specs.Failing.{FailsFor}
use Rattle.store_sql_rows.proofs.FailLemmas.{fails_later_if}
use Rattle.store_sql_rows.proofs.FoldLemmas.{with_each-append}

pub survives_on : (a b c : State) → Survives a b (λ _. ⊥) → Survives b c (λ _. ⊥) → Survives a c (λ _. ⊥)
survives_on a b c one two = survives_then a b c (λ _. ⊥) (λ _. ⊥) (λ _. ⊥) (λ _ db none. none) (λ _ db none. none) one two

pub clean_before : (a b : State) (P : Trees → Type 0) → Survives a b P → HasCleanDisk b → HasCleanDisk a
clean_before a b P one clean = omega (arith, one.clean)

-- one step alone
alone : {A : Type 0} (P Q : State → State → Type 0) (a b : State) (x y : A) → (P a b → Q a b) → Steps {A = A} P a b (Ok x)
    → Steps {A = A} Q a b (Ok y)
alone P Q a b x y turn one = record { done = λ clean inside. turn (one.done clean inside); kept = one.kept; survives = one.survives }

on_ok : {A : Type 0} {P Q : Type 0} (outcome : Result A Error) → (P → Q) → OnOk outcome P → OnOk outcome Q
on_ok (Ok x) f p = f p
on_ok (Err e) f p = tt

-- two steps
pub then : {A B : Type 0} (P Q R : State → State → Type 0) (a b c : State) (x : A) (outcome : Result B Error) → (P a b → IsInside b)
    → (P a b → Q b c → R a c)
    → Steps P a b (Ok x) → Steps Q b c outcome → Steps R a c outcome
then P Q R a b c x outcome inside both one two = record {
  done =
      λ clean at. let first =
      one.done (clean_before b c _ two.survives clean) at in on_ok outcome (both first) (two.done clean (inside first));
  kept = λ clean. keeps_then a b c (one.kept (clean_before b c _ two.survives clean)) (two.kept clean);
  survives = survives_on a b c one.survives two.survives;
}

-- what failed after a step in a transaction over the six tables
pub cause_after : {A B : Type 0} (P : State → State → Type 0) (Q : Trees → Type 0) (a b c : State) (x : A) (r : Result B Error) → (P a b → IsInside b)
    → Steps P a b (Ok x) → Survives b c Q → (HasCleanDisk c → IsInside b → IfErr r (FailsFor b c)) → HasCleanDisk c → IsInside a
    → IfErr r (FailsFor a c)
cause_after P Q a b c x r inside one two fails clean at =
    fails_later_if a b c _ Q r one.survives two clean (fails clean (inside (one.done (clean_before b c Q two clean) at)))

-- the transaction is inside after a change
pub inside_after : (P : Kept → Kept → Type 0) (a b : State) → Changes P a b → IsInside b
inside_after P a b one = record { in_transaction = one.seen.mode; ours = one.ours }

-- one statement turns the tables
pub one_statement : {S A B : Type 0} {g : Ghosts S} {x : A} {old new : MutBor (Held S)} (P : A → Kept → Kept → Type 0) (f : Tables → Tables)
    (z : B) → MovesBy g (λ it. Changes (P it)) old new (Ok x)
    → ((k l : Kept) → P x k l → Makes f k l)
    → Moves g (Turns f) old new (Ok z)
one_statement {g} {x} {old} {new} P f z step makes = record {
  same_reference = step.same_reference;
  steps = record {
    done = λ clean at.
        let one = step.steps.done clean at in
        record {
          inside = inside_after (P x) (state g old.now) (state g new.now) one;
          makes = makes (kept_in (state g old.now).now.trees) (kept_in (state g new.now).now.trees) one.change;
        };
    kept = step.steps.kept;
    survives = step.steps.survives;
  };
}

-- two statements do
pub two_statements : {S A B C : Type 0} {g : Ghosts S} {x : A} {y : B} {old mid new : MutBor (Held S)} (P : A → Kept → Kept → Type 0)
    (Q : B → Kept → Kept → Type 0) (f : Tables → Tables) (z : C)
    → MovesBy g (λ it. Changes (P it)) old mid (Ok x) → MovesBy g (λ it. Changes (Q it)) mid new (Ok y)
    → ((k l m : Kept) → P x k l → Q y l m → Makes f k m)
    → Moves g (Turns f) old new (Ok z)
two_statements {g} {x} {y} {old} {mid} {new} P Q f z first second makes =
    let a = state g old.now in
    let b = state g mid.now in
    let c = state g new.now in
    record {
      same_reference = second.same_reference ∙ first.same_reference;
      steps = record {
        done = λ clean at.
            let one = first.steps.done (clean_before b c _ second.steps.survives clean) at in
            let two = second.steps.done clean (inside_after (P x) a b one) in
            record {
              inside = inside_after (Q y) b c two;
              makes = makes (kept_in a.now.trees) (kept_in b.now.trees) (kept_in c.now.trees) one.change two.change;
            };
        kept =
            λ clean. keeps_then a b c (first.steps.kept (clean_before b c _ second.steps.survives clean)) (second.steps.kept clean);
        survives = survives_on a b c first.steps.survives second.steps.survives;
      };
    }

-- a statement on rows that a query showed does
pub seen_statements : {S A B C : Type 0} {g : Ghosts S} {x : A} {y : B} {old mid new : MutBor (Held S)} (Are : A → Kept → Type 0)
    (Q : Kept → Kept → Type 0) (f : C → Tables → Tables) (z : C)
    → MovesBy g (λ it. Changes (Stays (Are it))) old mid (Ok x) → Moves g (Changes Q) mid new (Ok y)
    → ((a b : Database) → IsOurs a → IsOurs b → Are x (kept_in a.trees) → Q (kept_in a.trees) (kept_in b.trees)
    → Makes (f z) (kept_in a.trees) (kept_in b.trees))
    → MovesBy g (λ it. Turns (f it)) old new (Ok z)
seen_statements {g} {x} {old} {mid} {new} Are Q f z first second makes =
    let a = state g old.now in
    let b = state g mid.now in
    let c = state g new.now in
    record {
      same_reference = second.same_reference ∙ first.same_reference;
      steps = record {
        done = λ clean at.
            let one = first.steps.done (clean_before b c _ second.steps.survives clean) at in
            let two = second.steps.done clean (inside_after (Stays (Are x)) a b one) in
            record {
              inside = inside_after Q b c two;
              makes =
                  makes a.now c.now at.ours two.ours one.change.1
                  (subst (λ k. Q k (kept_in c.now.trees)) one.change.0 two.change);
            };
        kept =
            λ clean. keeps_then a b c (first.steps.kept (clean_before b c _ second.steps.survives clean)) (second.steps.kept clean);
        survives = survives_on a b c first.steps.survives second.steps.survives;
      };
    }

-- a step that failed after another one
pub fails_after : {S A B C : Type 0} {g : Ghosts S} {x : A} {e : Error} {old mid new : MutBor (Held S)} {P : A → State → State → Type 0}
    {Q : B → State → State → Type 0} {R : C → State → State → Type 0} (r : Result C Error) → IsErr r
    → MovesBy g P old mid (Ok x) → MovesBy g Q mid new (Err e) → MovesBy g R old new r
fails_after (Ok z) is first second = absurd (true≢false (sym is))
fails_after {g} {old} {mid} {new} (Err f) is first second =
    let a = state g old.now in
    let b = state g mid.now in
    let c = state g new.now in
    record {
      same_reference = second.same_reference ∙ first.same_reference;
      steps = record {
        done = λ clean at. tt;
        kept =
            λ clean. keeps_then a b c (first.steps.kept (clean_before b c _ second.steps.survives clean)) (second.steps.kept clean);
        survives = survives_on a b c first.steps.survives second.steps.survives;
      };
    }

-- a statement that another row's key refused turned nothing
pub stays_put : {S A B : Type 0} {g : Ghosts S} {old new : MutBor (Held S)} {Does : A → State → State → Type 0} {r : Result A Error}
    (z : B) → r ≡ Err (SqliteFailure (ConstraintViolation Unique)) → MovesBy g Does old new r
    → StaysIfTaken (state g old.now) (state g new.now) r → Moves g (Turns (λ tables. tables)) old new (Ok z)
stays_put {g} {old} {new} z taken step stays = record {
  same_reference = step.same_reference;
  steps = record {
    done = λ clean at.
        let shows = stays clean at taken in
        record {
          inside = record {
            in_transaction = shows.mode;
            ours = subst IsOurs (sym shows.now_is) at.ours;
          };
          makes =
              subst (λ (db : Database). Makes (λ tables. tables) (kept_in (state g old.now).now.trees) (kept_in db.trees)) (sym shows.now_is)
              (record { tables = refl; is_sound = λ sound. sound; stands = λ asked stood. stood });
        };
    kept = step.steps.kept;
    survives = step.steps.survives;
  };
}

-- one turn after the other
pub turns_then : {S A B : Type 0} {g : Ghosts S} {x : A} {outcome : Result B Error} {old mid new : MutBor (Held S)}
    (first second both : Tables → Tables) → ((t : Tables) → second (first t) ≡ both t)
    → Moves g (Turns first) old mid (Ok x) → Moves g (Turns second) mid new outcome → Moves g (Turns both) old new outcome
turns_then {g} {x} {outcome} {old} {mid} {new} first second both same one two = record {
  same_reference = two.same_reference ∙ one.same_reference;
  steps =
      then (Turns first) (Turns second) (Turns both) (state g old.now) (state g mid.now) (state g new.now) x outcome (λ done. done.inside)
      (λ done then_done. record {
        inside = then_done.inside;
        makes = record {
          tables = then_done.makes.tables ∙ ap second done.makes.tables ∙ same (tables_in (kept_in (state g old.now).now.trees));
          is_sound = λ is. then_done.makes.is_sound (done.makes.is_sound is);
          stands = λ asked stood. then_done.makes.stands asked (done.makes.stands asked stood);
        };
      })
      one.steps two.steps;
}

-- ---- the steps of a list

-- what is left to do leads to the tables that the whole leads to
pub record Nears (rest whole : Tables → Tables) (old new : State) : Type 0 where
  pub inside : IsInside new
  pub tables : rest (tables_in (kept_in new.now.trees)) ≡ whole (tables_in (kept_in old.now.trees))
  pub is_sound : is_sound_in (kept_in old.now.trees) ≡ true → is_sound_in (kept_in new.now.trees) ≡ true
  pub stands : Keeps (kept_in old.now.trees) (kept_in new.now.trees)

module _ {Item A : Type 0} (put : Item → Tables → Tables) (items : List Item) where
  pub nears_next : (i : ℕ) (item : Item) (a b c : State) (x y : A) → i < length items → item ≡ get_or items i item
      → Steps {A = A} (Nears (with_each put (drop i items)) (with_each put items)) a b (Ok x) → Steps {A = A} (Turns (put item)) b c (Ok y)
      → Steps {A = A} (Nears (with_each put (drop (i + 1) items)) (with_each put items)) a c (Ok y)
  nears_next i item a b c x y below is one two =
      let cut : drop i items ≡ item ∷ drop (suc i) items = drop-cons items i item below ∙ ap (λ it. it ∷ drop (suc i) items) (sym is) in
      then (Nears (with_each put (drop i items)) (with_each put items)) (Turns (put item))
      (Nears (with_each put (drop (i + 1) items)) (with_each put items)) a b c x (Ok y)
      (λ first. first.inside)
      (λ first second.
      let so_far = rw cut at first.tables in record {
        inside = second.inside;
        tables = rw add-one (ap (with_each put (drop (suc i) items)) second.makes.tables ∙ so_far);
        is_sound = λ sound. second.makes.is_sound (first.is_sound sound);
        stands = λ asked stood. second.makes.stands asked (first.stands asked stood);
      })
      one two

  pub nears_last : (i : ℕ) (a b : State) (x y : A) → drop i items ≡ []
      → Steps {A = A} (Nears (with_each put (drop i items)) (with_each put items)) a b (Ok x)
      → Steps {A = A} (Turns (with_each put items)) a b (Ok y)
  nears_last i a b x y none one =
      alone (Nears (with_each put (drop i items)) (with_each put items)) (Turns (with_each put items)) a b x y
      (λ all. let whole =
      rw none at all.tables in record { inside = all.inside; makes = record { tables = whole; is_sound = all.is_sound; stands = all.stands } })
      one

first_of : {Item : Type 0} (items : List Item) (item : Item) → 0 < length items → item ≡ get_or items 0 item → take 1 items ≡ item ∷ []
first_of items item some is = ap (λ l. take 1 l) (drop-cons items 0 item some) ∙ ap (λ it. it ∷ []) (sym is)

-- the first item of a list alone, and that behind a step that did nothing
module _ {Item : Type 0} (put : Item → Tables → Tables) (items : List Item) where
  pub first_put : {S A : Type 0} {g : Ghosts S} {x : A} {old new : MutBor (Held S)} (item : Item) → 0 < length items → item ≡ get_or items 0 item
      → Moves g (Turns (put item)) old new (Ok x) → MovesBy g (λ count. Turns (with_each put (take count items))) old new (Ok 1)
  first_put {g} {old} {new} item some is step = record {
    same_reference = step.same_reference;
    steps = record {
      done =
          λ clean at. subst (λ l. Turns (with_each put l) (state g old.now) (state g new.now)) (sym (first_of items item some is))
          (step.steps.done clean at);
      kept = step.steps.kept;
      survives = step.steps.survives;
    };
  }

  pub first_put_after : {S A : Type 0} {g : Ghosts S} {x : A} {old mid new : MutBor (Held S)} (count : ℕ) (item : Item) → 0 < length items
      → item ≡ get_or items 0 item → count ≤ 0 → MovesBy g (λ n. Turns (with_each put (take n items))) old mid (Ok count)
      → Moves g (Turns (put item)) mid new (Ok x) → MovesBy g (λ n. Turns (with_each put (take n items))) old new (Ok 1)
  first_put_after (suc n) item some is none first second = absurd (omega arith)
  first_put_after {g} {x} {old} {mid} {new} zero item some is none first second =
      let nothing : Moves g (Turns (λ t. t)) old mid (Ok (tt {0})) = record {
        same_reference = first.same_reference;
        steps = record { done = λ clean at. first.steps.done clean at; kept = first.steps.kept; survives = first.steps.survives };
      } in
      first_put item some is (turns_then (λ t. t) (put item) (put item) (λ t. refl) nothing second)

  -- the first items of what is left
  pub nears_rest : {B : Type 0} (whole : List Item) (a b c : State) (x : B) (count : ℕ) → count ≤ length items
      → Steps {A = B} (Nears (with_each put items) (with_each put whole)) a b (Ok x)
      → StepsBy (λ n. Turns (with_each put (take n items))) b c (Ok count)
      → Steps {A = B} (Nears (with_each put (drop count items)) (with_each put whole)) a c (Ok x)
  nears_rest whole a b c x count within one two =
      let first : Steps {A = ℕ} (Turns (with_each put (take count items))) b c (Ok count) =
      record { done = λ clean at. two.done clean at; kept = two.kept; survives = two.survives } in
      let both =
      then (Nears (with_each put items) (with_each put whole)) (Turns (with_each put (take count items)))
      (Nears (with_each put (drop count items)) (with_each put whole)) a b c x (Ok count) (λ near. near.inside)
      (λ near turned. record {
        inside = turned.inside;
        tables =
            ap (with_each put (drop count items)) turned.makes.tables
            ∙ sym (with_each-append put (take count items) (drop count items) (tables_in (kept_in b.now.trees)))
            ∙ ap (λ l. with_each put l (tables_in (kept_in b.now.trees))) (take-append-drop count items) ∙ near.tables;
        is_sound = λ sound. turned.makes.is_sound (near.is_sound sound);
        stands = λ asked stood. turned.makes.stands asked (near.stands asked stood);
      })
      one first in
      record { done = λ clean at. both.done clean at; kept = both.kept; survives = both.survives }

  -- where nothing is left
  pub nears_none : {B : Type 0} (whole : List Item) (a b : State) (x : B) → items ≡ []
      → Steps {A = B} (Nears (with_each put items) (with_each put whole)) a b (Ok x) → Steps {A = B} (Turns (with_each put whole)) a b (Ok x)
  nears_none whole a b x none one =
      alone (Nears (with_each put items) (with_each put whole)) (Turns (with_each put whole)) a b x x
      (λ all. record {
        inside = all.inside;
        makes = record {
          tables = ap (λ l. with_each put l (tables_in (kept_in b.now.trees))) (sym none) ∙ all.tables;
          is_sound = all.is_sound;
          stands = all.stands;
        };
      })
      one
