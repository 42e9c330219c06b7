-- What a question leaves and tells.
use Rattle.std.proofs.Common.{◌≡◌, ℕ, Bool, List, [], Ok, Err, Result, sym, ap, subst, ◌∙◌, IfOk}
use Rattle.sqlite.specs.declared.error.Error.{Error}
use Rattle.sqlite_resolve.specs.declared.compiled.Compiled.{Compiled}
use Rattle.sqlite_value.specs.Order.{Row}
use Rattle.sqlite.specs.Effect.{Database, Reads}
use Rattle.sqlite.specs.Given.{IsPlain}
use Rattle.sqlite.specs.Listing.{understood}
use Rattle.store_sql_rows.specs.Schema.{desk_schema}
use Rattle.sqlite.specs.State.{FailsToQuery, HasCleanDisk, IsUnchanged, Shown, State, Survives}
use Rattle.sqlite.proofs.Callers.{command_of, reads_as}
use Rattle.sqlite.proofs.StateLemmas.{survives_weaker}
use Rattle.store_sql_rows.specs.Looking.{Rests}
use Rattle.store_sql_rows.proofs.FailLemmas.{query_fails}
use Rattle.store_sql.specs.Asking.{Asks, IsAskable}
use Rattle.store_sql.specs.Fitting.{IsFitting}

abbrev pub Saying : Type 1
Saying = Bool → Database → Type 0

-- an answer says what follows from it
pub asks_as : (P Q : Saying) → ((b : Bool) (db : Database) → IsFitting db → P b db → Q b db) → (old new : State) (r : Result Bool Error)
    → Asks P old new r → Asks Q old new r
asks_as P Q f old new r h =
    record {
      same = h.same;
      rests = h.rests;
      reported = λ clean fit. follows r fit (h.reported clean fit);
      survives = h.survives;
      cause = h.cause;
    }
  where
    follows : (r : Result Bool Error) → IsFitting old.now → IfOk r (λ b. P b old.now) → IfOk r (λ b. Q b old.now)
    follows (Ok b) fit p = f b old.now fit p
    follows (Err e) fit p = tt

-- what the text means over the six tables
plain_here : (sql : List ℕ) (s : State) → IsAskable sql → IsFitting s.now → IsPlain (understood s.now.schema sql)
plain_here sql s ask fit = subst (λ schema. IsPlain (understood schema sql)) (sym fit.schema_is) ask.plain

never_here : (sql : List ℕ) (old new : State) → IsAskable sql → Survives old new (λ _. IsPlain (understood old.now.schema sql) → ⊥)
    → Survives old new (λ _. IsFitting old.now → ⊥)
never_here sql old new ask survives =
    survives_weaker old new (λ _. IsPlain (understood old.now.schema sql) → ⊥) (λ _. IsFitting old.now → ⊥)
    (λ _ db never fit. never (plain_here sql old ask fit)) survives

-- what was looked at, of a question with an answer in a Bool
module _ (says : Saying) (sql : List ℕ) (ask : IsAskable sql) (old new : State) where
  pub looked : (answer : Bool) (rows : List Row)
      → ((c : Compiled) → understood desk_schema sql ≡ Ok c → Reads c.command old.now [] rows → says answer old.now)
      → (HasCleanDisk new → Shown sql [] old new rows)
      → (HasCleanDisk new → IsPlain (understood old.now.schema sql) → IsUnchanged old new)
      → (HasCleanDisk new → IsPlain (understood old.now.schema sql) → Rests old new)
      → Survives old new (λ _. IsPlain (understood old.now.schema sql) → ⊥)
      → Asks says old new (Ok answer)
  unfolding Shown
  looked answer rows said shown same rests survives = record {
    same = λ clean fit. same clean (plain_here sql old ask fit);
    rests = λ clean fit. rests clean (plain_here sql old ask fit);
    reported = λ clean fit.
        let h = shown clean in
        let known : understood desk_schema sql ≡ Ok h.0 = ap (λ s. understood s sql) (sym fit.schema_is) ∙ h.1.is in
        said h.0 known (reads_as sql [] old new desk_schema fit.schema_is h.0.command (ap command_of known) ask.plain ask.unlisted rows h);
    survives = never_here sql old new ask survives;
    cause = λ clean fit. tt;
  }

  pub look_failed : (r : Result Bool Error) (e : Error) → r ≡ Err e
      → (HasCleanDisk new → FailsToQuery sql [] old new e)
      → (HasCleanDisk new → IsPlain (understood old.now.schema sql) → Rests old new)
      → Survives old new (λ _. IsPlain (understood old.now.schema sql) → ⊥)
      → Asks says old new r
  look_failed r e is refused rests survives = subst (Asks says old new) (sym is) (record {
    same = λ clean fit. tt;
    rests = λ clean fit. rests clean (plain_here sql old ask fit);
    reported = λ clean fit. tt;
    survives = never_here sql old new ask survives;
    cause = λ clean fit. query_fails sql [] old new e ask fit.schema_is (refused clean);
  })
