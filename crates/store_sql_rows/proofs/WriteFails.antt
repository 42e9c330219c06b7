-- Why a statement that writes rows of the six tables fails.
use Rattle.std.proofs.Common.{◌≡◌, inl, inr, ℕ, zero, suc, List, [], ◌∷◌, length, length-append, true, false, None, Some, IsSome, Option, Ok, Err, Result, IfErr, refl, sym, ap, subst, arith}
use Rattle.std.specs.List.{AllByRecursion}
use Rattle.std.proofs.lemmas.Bool.{both_ways}
use Rattle.sqlite_value.specs.Order.{Row}
use Rattle.sqlite_trees.specs.Tree.{Trees}
use Rattle.sqlite_schema.specs.declared.schema.Among.{Among}
use Rattle.sqlite_schema.specs.declared.schema.Among.TheVariants as among
use Rattle.sqlite_schema.specs.declared.schema.Keys.TheVariants.{Enforced}
use Rattle.sqlite_schema.specs.declared.schema.Table.{Table}
use Rattle.sqlite_schema.specs.declared.command.Command.{Command}
use Rattle.sqlite_schema.specs.declared.program.Program.{Program}
use Rattle.sqlite_schema.specs.Rules.{Refers}
use Rattle.sqlite_rules.specs.declared.error.Refusal.{Refusal}
use Rattle.sqlite_rules.specs.Action.{Leads, Writes, works}
use Rattle.sqlite_rules.specs.Edit.{Edit, IsOversized, IsRefused, taken_by}
use Rattle.sqlite_rules.specs.Lists.{Has}
use Rattle.sqlite.specs.declared.error.Error.{Error}
use Rattle.sqlite.specs.Does.{Does, OnRows, WritesRows}
use Rattle.sqlite.specs.Effect.{Answers, RefusesQuery}
use Rattle.sqlite.specs.Listing.{understood}
use Rattle.sqlite.specs.Rows.{Edited, Gives, Queried, Task, Then, Written}
use Rattle.sqlite.specs.State.{State, ExecutesInside, mode_of}
use Rattle.sqlite.proofs.Callers.{statement_of}
use Rattle.store_sql_rows.specs.Failing.{FailsFor}
use Rattle.store_sql_rows.specs.Schema.{desk_schema}
use Rattle.store_sql_rows.proofs.FailLemmas.{Stands, inside_fails}

-- ---- an edit

-- no rule refuses the edit, each of its rows fits the disk, and it sets off no action
pub record Passes (db : Trees) (edit : Edit) : Type 0 where
  pub rules : (why : Refusal) → IsRefused desk_schema Enforced db edit why → ⊥
  pub fits : (row : Row) → Has edit.news row → IsOversized desk_schema edit.table row → ⊥
  pub acts : works desk_schema Enforced 0 edit.table.tree (taken_by db edit) edit.news ≡ []

nothing_left : (n : ℕ) (next : Trees) (why : Option Refusal) → Leads desk_schema Enforced n next [] (Err why) → ⊥
nothing_left zero next why h = absurd (let e = h.1 in cc)
nothing_left (suc n) next why h = absurd (omega (arith, ap length h.2, length-append h.0 (h.1 ∷ [])))

pub unwritten : (db : Trees) (edit : Edit) → Passes db edit → (why : Option Refusal) → Writes desk_schema Enforced db edit (Err why) → ⊥
unwritten db edit passes why (inl (reason, refused, is)) = passes.rules reason refused
unwritten db edit passes why (inr (inl (row, has, large, end))) = passes.fits row has large
unwritten db edit passes why (inr (inr (next, applied, settles))) = nothing_left settles.0 next why (rw passes.acts at settles.1)

trivially : (rows : List Row) → AllByRecursion (λ (row : Row). true ≡ true) rows
trivially [] = tt
trivially (r ∷ rs) = (refl, trivially rs)

-- no table refers to another
refers : (among : Among) (db : Trees) → Refers among desk_schema db
refers among db = (trivially _, (trivially _, (trivially _, (trivially _, (trivially _, (trivially _, tt))))))

-- ---- a statement

-- a limit of steps stopped it
abbrev pub IsStopped : Option ℕ → Option Error → Type 0
IsStopped limit stop = IsSome limit × IsSome stop

pub same_stop : {X : Type 0} {a b : Option Error} → ◌≡◌ {A = Result X (Option Error)} (Err a) (Err b) → a ≡ b
same_stop e = cc

module _ (s : State) (table : Table) (params : Row) (db : Trees) where
  abbrev pub task : Task
  task = record { limit = s.step_limit; keys = Enforced; schema = desk_schema; table = table; params = params }

  pub rows_stop : (command : Command) (stop : Option Error)
      → ((first : Option Error) → WritesRows task db command (Err first) → IsStopped s.step_limit first)
      → OnRows task (mode_of s) None command db (Err stop) → IsStopped s.step_limit stop
  rows_stop command stop writes (inl (why, wrote, is)) =
      let stopped = writes why wrote in (stopped.0, subst (λ o. IsSome o) (sym (same_stop is)) stopped.1)
  rows_stop command stop writes (inr (w, wrote, inl (why, tested, is))) = absurd (tested.0 (refers among.All w.trees))
  rows_stop command stop writes (inr (w, wrote, inr (in_doubt, tested, inl (why, shows, is)))) = absurd (let e = shows in cc)
  rows_stop command stop writes (inr (w, wrote, inr (in_doubt, tested, inr (rows, shows, gives)))) = absurd (let e = gives in cc)

  -- the rows that a query finds are edited
  pub edits_stop : (p : Program) (edit : List Row → Edit) (made : List Row → Trees → Written) (stop : Option Error)
      → ((e : Error) → RefusesQuery s.step_limit (record { schema = desk_schema; trees = db }) p params e → IsSome s.step_limit)
      → ((rows : List Row) → Answers (record { schema = desk_schema; trees = db }) p params rows → Passes db (edit rows))
      → Then (Queried s.step_limit (record { schema = desk_schema; trees = db }) p params)
      (λ rows. Then (Edited desk_schema Enforced db (edit rows)) (λ next. Gives (made rows next))) (Err stop)
      → IsStopped s.step_limit stop
  edits_stop p edit made stop limited passes (inl (None, none, is)) = absurd none
  edits_stop p edit made stop limited passes (inl (Some e, refused, is)) =
      (limited e refused, subst (λ o. IsSome o) (sym (same_stop is)) refl)
  edits_stop p edit made stop limited passes (inr (rows, answers, inl (why, unwrote, is))) =
      absurd (unwritten db (edit rows) (passes rows answers) unwrote.0 unwrote.1)
  edits_stop p edit made stop limited passes (inr (rows, answers, inr (next, wrote, gives))) = absurd (let e = gives in cc)

-- in a transaction over the six tables
pub stopped_fails : (sql : List ℕ) (params : Row) (command : Command) → Stands desk_schema sql (length params) command → (old new : State)
    → old.now.schema ≡ desk_schema
    → ((stop : Option Error) → Does old.step_limit (mode_of old) params (record { schema = desk_schema; trees = old.now.trees })
    (statement_of sql (understood desk_schema sql)) None command (Err stop) → IsStopped old.step_limit stop)
    → (r : Result ℕ Error) → ExecutesInside 0 sql params old new r → IfErr r (FailsFor old new)
stopped_fails sql params command text old new has stops (Ok count) h = tt
stopped_fails sql params command text old new has stops (Err e) h =
    inside_fails sql params old new desk_schema has command text e
    (λ does. record { cause = inr (inr (inr (stops (Some e) (here (Some e) does)).0)) })
    (λ does. both_ways false refl (stops None (here None does)).1) h
  where
    here : (stop : Option Error)
        → Does old.step_limit (mode_of old) params old.now (statement_of sql (understood desk_schema sql)) None command (Err stop)
        → Does old.step_limit (mode_of old) params (record { schema = desk_schema; trees = old.now.trees })
        (statement_of sql (understood desk_schema sql)) None command (Err stop)
    here stop does =
        subst (λ schema. Does old.step_limit (mode_of old) params (record old.now { schema = schema })
        (statement_of sql (understood desk_schema sql)) None command (Err stop)) has does
