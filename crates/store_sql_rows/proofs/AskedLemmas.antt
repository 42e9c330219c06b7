-- What a query in a transaction leaves, where it is asked behind an empty statement.
use Rattle.std.proofs.Common.{◌≡◌, ◌⊎◌, inl, inr, ℕ, List, [], false, cond, refl, sym, ap, subst, ◌∙◌, Option, Some, None, Ok, Err, Result, IfOk, IfErr, IsTrue}
use Rattle.std.proofs.lemmas.Bool.{cases_Bool}
use Rattle.sqlite_value.specs.Order.{Row}
use Rattle.sqlite_resolve.specs.declared.compiled.Compiled.{Compiled}
use Rattle.sqlite_resolve.specs.declared.error.CompileError.{CompileError}
use Rattle.sqlite_schema.specs.declared.command.Command.{Command}
use Rattle.sqlite_schema.specs.declared.command.Command.TheVariants.{Nothing}
use Rattle.sqlite_schema.specs.declared.command.Returning.{Returning}
use Rattle.sqlite.specs.declared.error.Error.{Error}
use Rattle.sqlite.specs.declared.error.Error.TheVariants.{SqliteFailure}
use Rattle.sqlite.specs.declared.error.ErrorCode.TheVariants.{TransactionState}
use Rattle.sqlite.specs.Clock.{timed}
use Rattle.sqlite.specs.Given.{IsPlain}
use Rattle.sqlite.specs.Listing.{reads_listing, understood}
use Rattle.sqlite.specs.State.{ExecutesInside, FailsToQuery, FailsToShow, IsNotRun, IsTooLate, IsUnchanged, KeepsCommit, RunsCommand, Shown, ShowsRows, State}
use Rattle.sqlite.specs.Effect.{Reads}
use Rattle.sqlite.proofs.Callers.{command_of, reads_as, runs_as}
use Rattle.sqlite_tied.specs.Compute.{everything}
use Rattle.store_sql_rows.specs.Schema.{desk_schema}
use Rattle.store_sql_rows.specs.Looking.{IsCommand, ShowsInside}
use Rattle.store_sql_rows.specs.Ours.{IsInside}
use Rattle.store_sql_rows.proofs.RestLemmas.{shown_unchanged}
use Rattle.store_sql_rows.proofs.RunLemmas.{rolled_keeps, unchanged_keeps}
use Rattle.store_sql_rows.proofs.Texts.{Runs}

nothing_runs : Runs [] Nothing
unfolding understood everything
nothing_runs = record { is = refl; plain = (refl, refl); unlisted = refl }

module _ (sql : List ℕ) (params : Row) (old new : State) where
  shown_keeps : (rows : List Row) → IsTrue old.in_transaction → Shown sql params old new rows → KeepsCommit old new
  unfolding Shown
  shown_keeps rows inside h = go h.0 (timed params h.0.formats h.1.now) h.0.returning h.2
    where
      go : (c : Compiled) (ps : Row) (returning : Option Returning) → ShowsRows old new sql c ps rows returning → KeepsCommit old new
      go c ps None it = unchanged_keeps old new it.3
      go c ps (Some what) it = record {
        was_open = λ _. it.1.shown.was_open;
        committed = λ _. it.1.shown.committed_is ∙ ap (λ b. cond b old.committed new.now) inside;
      }

  fails_keeps : (e : Error) → FailsToQuery sql params old new e → KeepsCommit old new
  unfolding FailsToQuery IsNotRun
  fails_keeps e (inl (inl h)) = unchanged_keeps old new h.1
  fails_keeps e (inl (inr h)) = rolled_keeps old new h.3
  fails_keeps e (inr h) = go h.0 (timed params h.0.formats h.1.now) h.0.returning h.2
    where
      ran : (c : Compiled) (ps : Row) → RunsCommand old new sql c ps (Err e) → KeepsCommit old new
      ran c ps (inl it) = unchanged_keeps old new it.1
      ran c ps (inr it) = rolled_keeps old new it.3

      go : (c : Compiled) (ps : Row) (returning : Option Returning) → FailsToShow old new sql c ps e returning → KeepsCommit old new
      go c ps None it = unchanged_keeps old new it.3
      go c ps (Some what) it = ran c ps it

  late_keeps : (e : Error) → IsTooLate sql params old new e → KeepsCommit old new
  late_keeps e late = unchanged_keeps old new late.5

commands : (sql : List ℕ) → IsPlain (understood desk_schema sql) → (command : Command) → IsCommand (understood desk_schema sql) command
    → command_of (understood desk_schema sql) ≡ command
commands sql plain command is = go (understood desk_schema sql) is
  where
    go : (r : Result Compiled CompileError) → IsCommand r command → command_of r ≡ command
    go (Ok compiled) h = h
    go (Err e) h = absurd h

-- whatever a query in a transaction answered
pub answered_keeps : {V : Type 0} (sql : List ℕ) (params : Row) (old new : State) (items : V → List Row) (r : Result V Error)
    → IsTrue old.in_transaction → IfOk r (λ v. Shown sql params old new (items v))
    → IfErr r (λ e. FailsToQuery sql params old new e ⊎ IsTooLate sql params old new e) → KeepsCommit old new
answered_keeps sql params old new items (Ok v) inside shown failed = shown_keeps sql params old new (items v) inside shown
answered_keeps sql params old new items (Err e) inside shown (inl fails) = fails_keeps sql params old new e fails
answered_keeps sql params old new items (Err e) inside shown (inr late) = late_keeps sql params old new e late

-- the empty statement, which a transaction refuses that has ended
module _ (old : State) (count : ℕ) where
  pub was_inside : (old.in_transaction ≡ false → ◌≡◌ {A = Result ℕ Error} (Ok count) (Err (SqliteFailure TransactionState)))
      → IsTrue old.in_transaction
  was_inside ended = elim (cases_Bool old.in_transaction) [ inl is ↦ is | inr over ↦ absurd (let e = ended over in cc) ]

module _ (old mid : State) (params : Row) (count : ℕ) where
  asked_nothing : IsInside old → ExecutesInside 0 [] params old mid (Ok count) → IsUnchanged old mid
  asked_nothing inside h = (runs_as [] params old mid desk_schema inside.ours.schema_is Nothing nothing_runs.is nothing_runs.plain count h.0).0

-- and the query behind it
shows_inside : (sql : List ℕ) (none params : Row) (old mid new : State) (count : ℕ) (rows : List Row)
    → IsPlain (understood desk_schema sql) → reads_listing desk_schema sql ≡ false → IsInside old
    → ExecutesInside 0 [] none old mid (Ok count) → Shown sql params mid new rows → ShowsInside sql params old new rows
shows_inside sql none params old mid new count rows plain unlisted inside began shown =
    let first = (asked_nothing old mid none count inside began).0 in
    let schema : mid.now.schema ≡ desk_schema = ap (λ d. d.schema) first.now_is ∙ inside.ours.schema_is in
    let second =
    (shown_unchanged sql params mid new rows (subst (λ s. IsPlain (understood s sql)) (sym schema) plain) shown).0 in
    record {
      seen = record {
        was_open = first.was_open;
        is_open = second.is_open;
        now_is = second.now_is ∙ first.now_is;
        committed_is = second.committed_is ∙ first.committed_is;
        mode = second.mode ∙ began.1.mode;
      };
      reads =
          λ command is. subst (λ d. Reads command d params rows) first.now_is
          (reads_as sql params mid new desk_schema schema command (commands sql plain command is) plain unlisted rows shown);
    }

pub answers_inside : {V : Type 0} (sql : List ℕ) (none params : Row) (old mid new : State) (count : ℕ) (items : V → List Row)
    (r : Result V Error) → IsPlain (understood desk_schema sql) → reads_listing desk_schema sql ≡ false → IsInside old
    → ExecutesInside 0 [] none old mid (Ok count) → IfOk r (λ v. Shown sql params mid new (items v))
    → IfOk r (λ v. ShowsInside sql params old new (items v))
answers_inside sql none params old mid new count items (Err e) plain unlisted inside began shown = tt
answers_inside sql none params old mid new count items (Ok v) plain unlisted inside began shown =
    shows_inside sql none params old mid new count (items v) plain unlisted inside began shown
