-- Why a statement fails.
use Rattle.std.proofs.Common.{◌≡◌, ◌≢◌, ◌≤◌, ◌⊎◌, inl, inr, ℕ, List, [], length, Bool, true, false, None, Some, Option, IsSome, Ok, Err, Result, IfErr, refl, sym, ap, subst, subst₂, ◌∙◌, append-nil, arith}
use Rattle.sqlite_value.specs.Order.{Row}
use Rattle.sqlite_trees.specs.declared.error.StoreError.{StoreError}
use Rattle.sqlite_trees.specs.declared.error.StoreError.TheVariants.{OutOfMemory, Io, Corrupt, Full, Broken, Unstorable}
use Rattle.sqlite_trees.specs.Tree.{Trees}
use Rattle.sqlite_schema.specs.declared.schema.Schema.{Schema}
use Rattle.sqlite_schema.specs.declared.command.Command.{Command}
use Rattle.sqlite_schema.specs.declared.command.Command.TheVariants.{Begin, Commit, Rollback, Release, RollbackTo, Select}
use Rattle.sqlite_schema.specs.declared.program.Program.{Program}
use Rattle.sqlite_schema.specs.Program.{lets_of}
use Rattle.sqlite_sql.specs.Program.{ProgramOverflows}
use Rattle.sqlite_sql.specs.Query.{FoldOverflows, Query, inner, end}
use Rattle.sqlite_sql.specs.Term.{Env}
use Rattle.sqlite_typing.specs.Types.{accepts_program}
use Rattle.sqlite_resolve.specs.declared.compiled.Compiled.{Compiled}
use Rattle.sqlite_resolve.specs.declared.error.CompileError.{CompileError}
use Rattle.sqlite.specs.declared.error.Error.{Error}
use Rattle.sqlite.specs.Does.{Does}
use Rattle.sqlite.specs.Effect.{Database, RefusesQuery, RefusesToRead, is_query}
use Rattle.sqlite.specs.Listing.{IsSourceOf, reads_listing, understood}
use Rattle.sqlite.specs.State.{State, EndsScope, Escapes, Executes, ExecutesIn, ExecutesInside, Fails, FailsToQuery, HasCause, HasCleanDisk, IsMisplaced, IsNoStatement, IsNotRun, Survives, is_pragma, mode_of, shows_rows, store_error}
use Rattle.sqlite.proofs.Callers.{IsPlain, command_of, statement_of}
use Rattle.std.proofs.lemmas.Bool.{cases_Bool, both_ways, leb-true}
use Rattle.sqlite_tied.specs.Compute.{everything}
use Rattle.store_sql_rows.specs.Failing.{FailsFor, IsSure, IsWhole, NeverRefuses}
use Rattle.store_sql_rows.specs.Schema.{desk_schema}
use Rattle.store_sql_rows.proofs.Texts.{Runs}

-- ---- the store fails

pub failed : (old new : State) (big : Type 0) → (big → ⊥) → (e : Error) → Fails old new big e → FailsFor old new e
failed old new big never e h = by_kind h.0 h.1 h.2
  where
    by_kind : (kind : StoreError) → e ≡ store_error kind → HasCause old new big kind → FailsFor old new e
    by_kind OutOfMemory is why = record { cause = inl is }
    by_kind Io is why = record { cause = inr (inl why) }
    by_kind Corrupt is why = record { cause = inr (inl why) }
    by_kind Full is why = record { cause = inr (inl why) }
    by_kind Broken is why = record { cause = inr (inr (inl why)) }
    by_kind Unstorable is why = absurd (never why)

-- ---- the text is no statement

misread : (sql : List ℕ) (params : Row) (c : Compiled) (e : Error) (A B C : Type 0) → IsWhole sql (length params) (Ok c)
    → (((length sql ≤ c.tail → ⊥) × A) ⊎ (((length params ≢ length c.names) × B) ⊎ ((c.formats ≢ []) × C))) → ⊥
misread sql params c e A B C whole (inl long) = long.0 (leb-true _ _ whole.0)
misread sql params c e A B C whole (inr (inl count)) = count.0 whole.1
misread sql params c e A B C whole (inr (inr times)) = times.0 whole.2

no_statement : (sql : List ℕ) (params : Row) (s : State) (e : Error) → IsWhole sql (length params) (understood s.now.schema sql)
    → IsNoStatement s sql params e → ⊥
no_statement sql params s e whole (inl bad) = subst (IsWhole sql (length params)) bad.1 whole
no_statement sql params s e whole (inr h) = misread sql params h.0 e _ _ _ (subst (IsWhole sql (length params)) h.1 whole) h.2

pub not_run : (sql : List ℕ) (params : Row) (old new : State) (e : Error) → IsWhole sql (length params) (understood old.now.schema sql)
    → IsNotRun old new sql params e → FailsFor old new e
unfolding IsNotRun
not_run sql params old new e whole (inl refused) = absurd (no_statement sql params old e whole refused.0)
not_run sql params old new e whole (inr fails) = failed old new ⊥ (λ none. none) e fails

-- the empty text is a statement over the six tables
nothing_whole : IsWhole [] 0 (understood desk_schema [])
unfolding understood everything
nothing_whole = (refl, refl, refl)

pub nothing_fails : (old new : State) (e : Error) → old.now.schema ≡ desk_schema → IsNotRun old new [] [] e → FailsFor old new e
nothing_fails old new e has h = not_run [] [] old new e (subst (λ s. IsWhole [] 0 (understood s [])) (sym has) nothing_whole) h

-- ---- a statement is refused

-- the command does not say where a transaction ends
abbrev pub stands_anywhere : Command → Bool
stands_anywhere Begin = false
stands_anywhere Commit = false
stands_anywhere Rollback = false
stands_anywhere (Release name) = false
stands_anywhere (RollbackTo name) = false
stands_anywhere _ = true

moved : (command other : Command) → stands_anywhere command ≡ true → stands_anywhere other ≡ false → command ≡ other → ⊥
moved command other one two same = both_ways _ two (sym (ap stands_anywhere same) ∙ one)

never_misplaced : (s : State) (command : Command) (e : Error) → stands_anywhere command ≡ true → IsMisplaced s command e → ⊥
never_misplaced s command e free (inl (is, inl begins)) = moved command Begin free refl begins.0
never_misplaced s command e free (inl (is, inr (inl commits, outside))) = moved command Commit free refl commits
never_misplaced s command e free (inl (is, inr (inr undoes, outside))) = moved command Rollback free refl undoes
never_misplaced s command e free (inr (is, name, inl releases, rest)) = moved command (Release name) free refl releases
never_misplaced s command e free (inr (is, name, inr undoes, rest)) = moved command (RollbackTo name) free refl undoes

never_escapes : (s : State) (command : Command) → stands_anywhere command ≡ true → Escapes 0 s command → ⊥
never_escapes s command free (inl (inl commits)) = moved command Commit free refl commits
never_escapes s command free (inl (inr undoes)) = moved command Rollback free refl undoes
never_escapes s command free (inr (name, inl releases, rest)) = moved command (Release name) free refl releases
never_escapes s command free (inr (name, inr undoes, rest)) = moved command (RollbackTo name) free refl undoes

-- what a statement is that only its own refusal and the store can fail
pub record Stands (schema : Schema) (sql : List ℕ) (count : ℕ) (command : Command) : Type 0 where
  pub is : command_of (understood schema sql) ≡ command
  pub plain : IsPlain (understood schema sql)
  pub whole : IsWhole sql count (understood schema sql)
  pub free : stands_anywhere command ≡ true
  pub no_query : is_query command ≡ false
  pub no_pragma : is_pragma command ≡ false

module _ (sql : List ℕ) (params : Row) (old new : State) (schema : Schema) (has : old.now.schema ≡ schema) (command : Command)
    (text : Stands schema sql (length params) command) where
  execution_fails : (e : Error)
      → (Does old.step_limit (mode_of old) params old.now (statement_of sql (understood schema sql)) None command (Err (Some e)) → FailsFor old new e)
      → (Does old.step_limit (mode_of old) params old.now (statement_of sql (understood schema sql)) None command (Err None) → ⊥)
      → Executes sql params old new (Err e) → FailsFor old new e
  unfolding ExecutesIn
  execution_fails e refused long (inl none) =
      not_run sql params old new e (subst (λ s. IsWhole sql (length params) (understood s sql)) (sym has) text.whole) none
  execution_fails e refused long (inr h) =
      let known = sym h.1.is ∙ ap (λ s. understood s sql) has in
      let bare = subst IsPlain (sym known) text.plain in
      let same : h.0.command ≡ command = ap command_of known ∙ text.is in
      let quiet : shows_rows false h.0 ≡ false = rw (same, text.no_query, text.no_pragma, bare.0) refl in
      let ran = rw quiet at h.2 in
      elim ran [
        | inl (inl misplaced, kept) ↦ absurd (never_misplaced old command e text.free (subst (λ k. IsMisplaced old k e) same misplaced))
        | inl (inr does, kept) ↦ refused (subst₂ (λ k t. Does old.step_limit (mode_of old) params old.now t None k (Err (Some e))) same (ap (statement_of sql) known)
            (rw (bare.0, bare.1, append-nil params) at does.1))
        | inr fails ↦ failed old new _ (λ big. long (subst₂ (λ k t. Does old.step_limit (mode_of old) params old.now t None k (Err None)) same (ap (statement_of sql) known)
            (rw (bare.0, bare.1, append-nil params) at big))) e fails
      ]

  never_ends : EndsScope 0 sql params old → ⊥
  unfolding EndsScope
  never_ends h =
      let known = sym h.1.is ∙ ap (λ s. understood s sql) has in
      never_escapes old command text.free (subst (Escapes 0 old) (ap command_of known ∙ text.is) h.2)

  -- in a transaction
  pub inside_fails : (e : Error)
      → (Does old.step_limit (mode_of old) params old.now (statement_of sql (understood schema sql)) None command (Err (Some e)) → FailsFor old new e)
      → (Does old.step_limit (mode_of old) params old.now (statement_of sql (understood schema sql)) None command (Err None) → ⊥)
      → ExecutesInside 0 sql params old new (Err e) → FailsFor old new e
  inside_fails e refused long (inl h) = execution_fails e refused long h.0
  inside_fails e refused long (inr h) = absurd (never_ends h.0)

-- ---- a query is refused

never_sums : (t : ℕ) (db : Trees) (env : Env) → FoldOverflows db (inner t end) env → ⊥
never_sums t db env h = h.4

never_sums_twice : (t u : ℕ) (db : Trees) (env : Env) → FoldOverflows db (inner t (inner u end)) env → ⊥
never_sums_twice t u db env h = h.4.4

never_overflows : (body : Query) → body.group ≡ None → ((db : Trees) (env : Env) → FoldOverflows db body.from env → ⊥) → (trees : Trees)
    (params : Row) → ProgramOverflows trees params [] [] body → ⊥
never_overflows body ungrouped small trees params (inl grouped) = rw ungrouped at grouped
never_overflows body ungrouped small trees params (inr folded) = small _ _ folded

-- a query of one table or of two that sums nothing, where its terms fit
select_refuses : (limit : Option ℕ) (db : Database) (p : Program) (params : Row) (e : Error) (names : List (List ℕ))
    → accepts_program db.schema (lets_of p) p.body params ≡ true → (ProgramOverflows db.trees params [] (lets_of p) p.body → ⊥)
    → RefusesToRead limit (Select p names) db params e → IsSome limit
select_refuses limit db p params e names typed small (inl (is, untyped)) = absurd (both_ways _ untyped typed)
select_refuses limit db p params e names typed small (inr (inl (is, large))) = absurd (small large)
select_refuses limit db p params e names typed small (inr (inr (is, limited))) = limited

-- the rows of one table that a statement writes to
pub plain_refuses : (limit : Option ℕ) (trees : Trees) (body : Query) (params : Row) (e : Error)
    → accepts_program desk_schema [] body params ≡ true → body.group ≡ None → (tree : ℕ) → body.from ≡ inner tree end
    → RefusesQuery limit (record { schema = desk_schema; trees = trees }) (record { lets = []; body = body }) params e → IsSome limit
plain_refuses limit trees body params e typed ungrouped tree from =
    select_refuses limit (record { schema = desk_schema; trees = trees }) (record { lets = []; body = body }) params e [] typed
    (never_overflows body ungrouped (λ db env h. never_sums tree db env (rw from at h)) trees params)

never_refuses : (params : Row) (r : Result Compiled CompileError) (p : Program) (names : List (List ℕ)) → IsPlain r
    → command_of r ≡ Select p names → accepts_program desk_schema (lets_of p) p.body params ≡ true
    → ((trees : Trees) → ProgramOverflows trees params [] (lets_of p) p.body → ⊥) → NeverRefuses params r
never_refuses params (Ok c) p names plain is typed small =
    λ limit trees e h. select_refuses limit (record { schema = desk_schema; trees = trees }) p params e names typed (small trees)
    (subst (λ k. RefusesToRead limit k (record { schema = desk_schema; trees = trees }) params e) is h)
never_refuses params (Err fault) p names plain is typed small = absurd plain

-- what a text on one table says
module _ (sql : List ℕ) (params : Row) (body : Query) (names : List (List ℕ))
    (is : command_of (understood desk_schema sql) ≡ Select (record { lets = []; body = body }) names)
    (plain : IsPlain (understood desk_schema sql)) (unlisted : reads_listing desk_schema sql ≡ false)
    (whole : IsWhole sql (length params) (understood desk_schema sql))
    (typed : accepts_program desk_schema [] body params ≡ true) (ungrouped : body.group ≡ None) where
  sure_query : ((trees : Trees) (env : Env) → FoldOverflows trees body.from env → ⊥) → IsSure sql params
  sure_query small = record {
    plain = plain;
    unlisted = unlisted;
    whole = whole;
    answered =
        never_refuses params (understood desk_schema sql) (record { lets = []; body = body }) names plain is typed
        (λ trees. never_overflows body ungrouped small trees params);
  }

  pub sure_of_one : (tree : ℕ) → body.from ≡ inner tree end → IsSure sql params
  sure_of_one tree from = sure_query (λ trees env h. never_sums tree trees env (rw from at h))

  pub sure_of_two : (tree other : ℕ) → body.from ≡ inner tree (inner other end) → IsSure sql params
  sure_of_two tree other from = sure_query (λ trees env h. never_sums_twice tree other trees env (rw from at h))

-- the same of a text that runs a query of one table
pub sure : {sql : List ℕ} {body : Query} {names : List (List ℕ)} → Runs sql (Select (record { lets = []; body = body }) names) → (params : Row)
    → IsWhole sql (length params) (understood desk_schema sql) → accepts_program desk_schema [] body params ≡ true → body.group ≡ None
    → (tree : ℕ) → body.from ≡ inner tree end → IsSure sql params
sure {sql} {body} {names} runs params = sure_of_one sql params body names runs.is runs.plain runs.unlisted

pub query_fails : (sql : List ℕ) (params : Row) (old new : State) (e : Error) → IsSure sql params → old.now.schema ≡ desk_schema
    → FailsToQuery sql params old new e → FailsFor old new e
unfolding FailsToQuery
query_fails sql params old new e sure has (inl none) =
    not_run sql params old new e (subst (λ s. IsWhole sql (length params) (understood s sql)) (sym has) sure.whole) none
query_fails sql params old new e sure has (inr h) =
    let known = sym h.1.is ∙ ap (λ s. understood s sql) has in
    let bare = subst IsPlain (sym known) sure.plain in
    let it = rw (bare.0, bare.1, append-nil params) at h.2 in
    let db : it.0 ≡ old.now = subst (λ b. IsSourceOf b old.now it.0) (ap (λ s. reads_listing s sql) has ∙ sure.unlisted) it.1 in
    let read = subst (λ (d : Database). RefusesToRead old.step_limit h.0.command d params e) db it.2 in
    let ours =
    subst (λ schema. RefusesToRead old.step_limit h.0.command (record old.now { schema = schema }) params e) has read in
    record { cause = inr (inr (inr (subst (NeverRefuses params) (sym known) sure.answered old.step_limit old.now.trees e ours))) }

pub query_fails_if : {A : Type 0} (sql : List ℕ) (params : Row) (old new : State) (r : Result A Error) → IsSure sql params
    → old.now.schema ≡ desk_schema → IfErr r (FailsToQuery sql params old new) → IfErr r (FailsFor old new)
query_fails_if sql params old new (Ok x) sure has fails = tt
query_fails_if sql params old new (Err e) sure has fails = query_fails sql params old new e sure has fails

-- ---- one call after another

was_shut : (a b c : State) (P : Trees → Type 0) (e : Error) → Survives a b P → b.faults ≤ c.faults → HasCleanDisk b → b.is_open ≡ false
    → FailsFor a c e
was_shut a b c P e kept up clean shut = elim (cases_Bool a.is_open) [
  | inl is_open ↦ elim (kept.closes clean is_open) [
    | inl still ↦ absurd (both_ways _ shut still)
    | inr faults ↦ record { cause = inr (inl (omega (arith, faults, up))) }
  ]
  | inr shut_before ↦ record { cause = inr (inr (inl shut_before)) }
]

-- what failed in a later call, after calls that only kept what there was
pub fails_later : (a b c : State) (P Q : Trees → Type 0) (e : Error) → Survives a b P → Survives b c Q → HasCleanDisk c → FailsFor b c e
    → FailsFor a c e
fails_later a b c P Q e one two clean fails = elim fails.cause [
  | inl memory ↦ record { cause = inl memory }
  | inr (inl faults) ↦ record { cause = inr (inl (omega (arith, faults, one.counts))) }
  | inr (inr (inl shut)) ↦ was_shut a b c P e one two.counts (omega (arith, two.clean, clean)) shut
  | inr (inr (inr limit)) ↦ record { cause = inr (inr (inr (subst (λ l. IsSome l) one.limit limit))) }
]

-- what failed before the last call
pub fails_sooner : (a b c : State) (Q : Trees → Type 0) (e : Error) → FailsFor a b e → Survives b c Q → FailsFor a c e
fails_sooner a b c Q e fails two = elim fails.cause [
  | inl memory ↦ record { cause = inl memory }
  | inr (inl faults) ↦ record { cause = inr (inl (omega (arith, faults, two.counts))) }
  | inr (inr rest) ↦ record { cause = inr (inr rest) }
]

pub as_reported : {A : Type 0} (old new : State) (e : Error) (r : Result A Error) → r ≡ Err e → FailsFor old new e → IfErr r (FailsFor old new)
as_reported old new e r is fails = subst (λ r. IfErr r (FailsFor old new)) (sym is) fails

-- the same of a result
pub fails_later_if : {A : Type 0} (a b c : State) (P Q : Trees → Type 0) (r : Result A Error) → Survives a b P → Survives b c Q
    → HasCleanDisk c → IfErr r (FailsFor b c) → IfErr r (FailsFor a c)
fails_later_if a b c P Q (Ok x) one two clean fails = tt
fails_later_if a b c P Q (Err e) one two clean fails = fails_later a b c P Q e one two clean fails
