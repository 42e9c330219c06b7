-- A query whose rows are read one at a time.
use Rattle.std.proofs.Common.{◌≡◌, ◌++◌, inl, false, ℕ, List, ◌∷◌, Result, Ok, Err, OnErr, refl, sym, ap, ◌∙◌, subst, arith, []}
use Rattle.sqlite_trees.specs.declared.store.Store.{Ghosts}
use Rattle.sqlite_value.specs.Order.{Row}
use Rattle.sqlite.specs.declared.error.Error.{Error}
use Rattle.sqlite.specs.declared.error.Error.TheVariants.{SqliteFailure}
use Rattle.sqlite.specs.declared.error.ErrorCode.TheVariants.{OutOfMemory}
use Rattle.sqlite.specs.Given.{FailsToAdvance, HasBegun, HasGiven, IsPlain, IsRefused}
use Rattle.sqlite.specs.Held.{Held, state}
use Rattle.sqlite.specs.Effect.{Database, ReadsFirst, Reads as ReadsAll}
use Rattle.sqlite.specs.Listing.{reads_listing, understood}
use Rattle.sqlite_resolve.specs.declared.compiled.Compiled.{Compiled}
use Rattle.sqlite_resolve.specs.declared.error.CompileError.{CompileError}
use Rattle.sqlite_schema.specs.declared.command.Command.{Command}
use Rattle.sqlite.specs.State.{Begins, CommitsShowing, HasCleanDisk, IsUnchanged, Shown, State, Survives}
use Rattle.sqlite.proofs.Callers.{begins_as, begun_plain, command_of, reads_as, unchanged_then}
use Rattle.sqlite.proofs.StateLemmas.{survives_then}
use Rattle.store_sql_rows.specs.Failing.{IsSure}
use Rattle.store_sql_rows.specs.Schema.{desk_schema}
use Rattle.store_sql_rows.specs.Looking.{IsCommand, Leaves, Rests, last_shown, number_shown}
use Rattle.store_sql_rows.specs.Ours.{IsOurs}
use Rattle.store_sql_rows.proofs.FailLemmas.{fails_later, query_fails}
use Rattle.store_sql_rows.proofs.RestLemmas.{fails_rests, look_survives, ours_survives, plain_here, rests_unchanged}

-- so far rows were read, and nothing is changed
pub record Stays (old now : State) : Type 0 where
  pub mode : old.in_transaction ≡ false → now.in_transaction ≡ false
  pub same : HasCleanDisk now → IsOurs old.now → IsUnchanged old now
  pub survives : Survives old now (λ _. IsOurs old.now → ⊥)

pub leaves_err : {A : Type 0} (old now : State) (r : Result A Error) → r ≡ Err (SqliteFailure OutOfMemory) → Stays old now → Leaves old now r
leaves_err old now r is stays = subst (Leaves old now) (sym is) (record {
  mode = stays.mode;
  same = λ _ _. tt;
  rests = λ clean ours. rests_unchanged old now (stays.same clean ours);
  survives = stays.survives;
  cause = λ _ _. record { cause = inl refl };
})

-- an open connection sees the same after what an unchanged one saw
rests_then : (a b c : State) → IsUnchanged a b → Rests b c → Rests a c
rests_then a b c same rests = record {
  was_open = λ is_open. same.0.was_open;
  same =
      λ alike is_open.
      let now : b.now ≡ a.now = same.0.now_is in
      let committed : b.committed ≡ a.committed = same.0.committed_is in
      let after = rests.same (now ∙ alike ∙ sym committed) is_open in
      (after.0 ∙ now, after.1 ∙ committed);
}

-- the rows that are given so far
abbrev pub Given : {S : Type 0} → Ghosts S → List ℕ → Row → State → Held S → List Row → Type 0
Given g sql params old now given = HasCleanDisk (state g now) → IsOurs old.now → HasGiven g sql params now given

module _ {S : Type 0} (g : Ghosts S) (sql : List ℕ) (params : Row) (sure : IsSure sql params) where
  -- ---- the query

  pub refused_leaves : {X A : Type 0} (old new : Held S) (fault : Error) (asked : Result X Error) (r : Result A Error) → r ≡ Err fault
      → asked ≡ Err fault → OnErr asked (IsRefused g sql params old asked new) → Leaves (state g old) (state g new) r
  refused_leaves old new fault (Ok x) r is was refused = absurd (let e = was in cc)
  refused_leaves old new fault (Err e) r is was refused =
      let same : fault ≡ e = let w = was in cc in
      subst (Leaves (state g old) (state g new)) (sym (is ∙ ap Err same)) (record {
        mode = refused.mode;
        same = λ _ _. tt;
        rests = λ clean ours. fails_rests sql params (state g old) (state g new) e (plain_here sql (state g old) ours sure.plain) (refused.err clean);
        survives = ours_survives sql (state g old) (state g new) sure.plain (look_survives sql params (state g old) (state g new) refused.survives);
        cause = λ clean ours. query_fails sql params (state g old) (state g new) e sure ours.schema_is (refused.err clean);
      })

  pub begun_stays : (old now : Held S) → (HasCleanDisk (state g now) → HasBegun g sql params old now)
      → ((state g old).in_transaction ≡ false → (state g now).in_transaction ≡ false)
      → Survives (state g old) (state g now) (CommitsShowing sql params (state g old)) → Stays (state g old) (state g now)
  begun_stays old now begun mode survives = record {
    mode = mode;
    same = λ clean ours. (begun_plain g sql params old now (plain_here sql (state g old) ours sure.plain) (begun clean)).1;
    survives = ours_survives sql (state g old) (state g now) sure.plain (look_survives sql params (state g old) (state g now) survives);
  }

  pub begun_given : (old now : Held S) → (HasCleanDisk (state g now) → HasBegun g sql params old now) → Given g sql params (state g old) now []
  begun_given old now begun clean ours = (begun_plain g sql params old now (plain_here sql (state g old) ours sure.plain) (begun clean)).0

  -- ---- a step

  module _ (old : State) (was now : Held S) (stays : Stays old (state g was)) (given : List Row) (so_far : Given g sql params old was given) where
    moved_survives : Survives (state g was) (state g now) (λ _. ⊥) → Survives old (state g now) (λ _. IsOurs old.now → ⊥)
    moved_survives survives =
        survives_then old (state g was) (state g now) (λ _. IsOurs old.now → ⊥) (λ _. ⊥) (λ _. IsOurs old.now → ⊥) (λ _ db never. never)
        (λ _ db none ours. none) stays.survives survives

    earlier : Survives (state g was) (state g now) (λ _. ⊥) → HasCleanDisk (state g now) → HasCleanDisk (state g was)
    earlier survives clean = omega (arith, clean, survives.clean)

    pub moved_stays : ((state g was).in_transaction ≡ false → (state g now).in_transaction ≡ false)
        → (HasCleanDisk (state g now) → IsUnchanged (state g was) (state g now)) → Survives (state g was) (state g now) (λ _. ⊥)
        → Stays old (state g now)
    moved_stays mode same survives = record {
      mode = λ m. mode (stays.mode m);
      same =
          λ clean ours. unchanged_then old (state g was) (state g now) (stays.same (earlier survives clean) ours) (same clean);
      survives = moved_survives survives;
    }

    pub moved_fails : {A : Type 0} (fault : Error) (r : Result A Error) → r ≡ Err fault
        → ((state g was).in_transaction ≡ false → (state g now).in_transaction ≡ false)
        → (HasCleanDisk (state g now) → FailsToAdvance g was now fault) → Survives (state g was) (state g now) (λ _. ⊥)
        → Leaves old (state g now) r
    moved_fails fault r is mode fails survives = subst (Leaves old (state g now)) (sym is) (record {
      mode = λ m. mode (stays.mode m);
      same = λ _ _. tt;
      rests =
          λ clean ours.
          let before = earlier survives clean in
          let same = stays.same before ours in
          let here : IsPlain (understood (state g was).now.schema sql) =
          subst (λ db. IsPlain (understood db.schema sql)) (sym same.0.now_is) (plain_here sql old ours sure.plain) in
          rests_then old (state g was) (state g now) same
          (fails_rests sql params (state g was) (state g now) fault here (fails clean sql params given (so_far before ours)));
      survives = moved_survives survives;
      cause =
          λ clean ours.
          let before = earlier survives clean in
          let has = ap (λ (db : Database). db.schema) (stays.same before ours).0.now_is ∙ ours.schema_is in
          fails_later old (state g was) (state g now) _ _ fault stays.survives survives clean
          (query_fails sql params (state g was) (state g now) fault sure has (fails clean sql params given (so_far before ours)));
    })

-- the number of the last row, with one more
pub last-more : (last : ℕ) (run : List Row) (row : Row) → last_shown last (run ++ row ∷ []) ≡ number_shown row
last-more last [] row = refl
last-more last (r ∷ run) row = last-more (number_shown r) run row

-- ---- what is read

module _ (sql : List ℕ) (params : Row) (command : Command) (plain : IsPlain (understood desk_schema sql))
    (unlisted : reads_listing desk_schema sql ≡ false) (is : IsCommand (understood desk_schema sql) command) where
  commands : (r : Result Compiled CompileError) → IsCommand r command → command_of r ≡ command
  commands (Ok compiled) same = same
  commands (Err fault) none = absurd none

  pub all_read : (old mid new : State) (run : List Row) → IsOurs old.now → IsUnchanged old mid → Shown sql params mid new run
      → ReadsAll command old.now params run
  all_read old mid new run ours same shown =
      subst (λ db. ReadsAll command db params run) same.0.now_is
      (reads_as sql params mid new desk_schema (ap (λ (db : Database). db.schema) same.0.now_is ∙ ours.schema_is) command
      (commands (understood desk_schema sql) is) plain unlisted run shown)

  pub first_read : (old new : State) (run : List Row) → IsOurs old.now → IsUnchanged old new → Begins sql params new run
      → ReadsFirst command old.now params run
  first_read old new run ours same begins =
      subst (λ db. ReadsFirst command db params run) same.0.now_is
      (begins_as sql params new new desk_schema (ap (λ (db : Database). db.schema) same.0.now_is ∙ ours.schema_is) command
      (commands (understood desk_schema sql) is) plain unlisted run begins)

pub is_command : (r : Result Compiled CompileError) (command : Command) → IsPlain r → command_of r ≡ command → IsCommand r command
is_command (Ok compiled) command plain same = same
is_command (Err fault) command plain same = absurd plain
