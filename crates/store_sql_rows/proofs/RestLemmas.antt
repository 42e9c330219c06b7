-- What a query leaves.
use Rattle.std.proofs.Common.{◌≡◌, inl, inr, ℕ, map, Bool, false, List, [], ◌∷◌, refl, Ok, Err, Result, sym, subst, ◌∙◌, IfErr, IfOk, OnOk}
use Rattle.sqlite_value.specs.declared.value.Value.TheVariants.{Text}
use Rattle.sqlite_value.specs.Order.{Row, column}
use Rattle.sqlite_schema.specs.declared.schema.Kind.TheVariants as kind
use Rattle.sqlite_sql.specs.declared.ops.CompareOp.TheVariants.{Ge}
use Rattle.sqlite_sql.specs.Term.{Term}
use Rattle.sqlite.specs.Clock.{timed}
use Rattle.sqlite.specs.declared.error.Error.{Error}
use Rattle.sqlite.specs.Given.{IsPlain}
use Rattle.sqlite.specs.Listing.{reads_listing, understood}
use Rattle.sqlite.specs.State.{CommitsShowing, FailsToQuery, FailsToShow, HasCleanDisk, IsNotRun, IsRolledBack, IsUnchanged, Shown, ShowsRows, State, Survives}
use Rattle.sqlite.proofs.Callers.{command_of, never_commits, reads_as}
use Rattle.sqlite.proofs.StateLemmas.{survives_weaker}
use Rattle.store_sql_rows.specs.Schema.{desk_schema}
use Rattle.store_sql_rows.specs.Looking.{Finds, FindsLeast, Leaves, Reads, Rests, is_from_text}
use Rattle.store_sql_rows.specs.Meanings.{compared_with, least, passes, selection, shows}
use Rattle.sqlite_rules.specs.Lists.{Has}
use Rattle.std.specs.List.Sorted.{IsPermutation}
use Rattle.store_sql_rows.specs.Ours.{IsOurs, kept_in}
use Rattle.store_sql_rows.specs.Stored.{Kept}
use Rattle.store_sql_rows.proofs.RowLemmas.{filter_same}
use Rattle.store_sql_rows.proofs.AnswerLemmas.{plain_program}
use Rattle.store_sql_rows.proofs.CellLemmas.{and_true, from_text}
use Rattle.store_sql_rows.proofs.LeastLemmas.{least_program}
use Rattle.store_sql_rows.proofs.Texts.{Runs}
use Rattle.store_sql_rows.proofs.TypeLemmas.{IsFilled}

pub rests_unchanged : (old new : State) → IsUnchanged old new → Rests old new
rests_unchanged old new same = record { was_open = λ _. same.0.was_open; same = λ _ _. (same.0.now_is, same.0.committed_is) }

rests_rolled : (old new : State) → IsRolledBack old new → Rests old new
rests_rolled old new back =
    record { was_open = back.was_open; same = λ alike stands. ((back.undone stands).0 ∙ sym alike, (back.undone stands).1) }

pub fails_rests : (sql : List ℕ) (params : Row) (old new : State) (e : Error) → IsPlain (understood old.now.schema sql)
    → FailsToQuery sql params old new e → Rests old new
unfolding FailsToQuery IsNotRun
fails_rests sql params old new e plain (inl (inl h)) = rests_unchanged old new h.1
fails_rests sql params old new e plain (inl (inr h)) = rests_rolled old new h.3
fails_rests sql params old new e plain (inr h) =
    let bare = subst IsPlain h.1.is plain in
    let it = subst (FailsToShow old new sql h.0 (timed params h.0.formats h.1.now) e) bare.0 h.2 in
    rests_unchanged old new it.3

pub shown_unchanged : (sql : List ℕ) (params : Row) (old new : State) (rows : List Row) → IsPlain (understood old.now.schema sql)
    → Shown sql params old new rows → IsUnchanged old new
unfolding Shown
shown_unchanged sql params old new rows plain h =
    let bare = subst IsPlain h.1.is plain in
    let it = subst (ShowsRows old new sql h.0 (timed params h.0.formats h.1.now) rows) bare.0 h.2 in
    it.3

pub look_survives : (sql : List ℕ) (params : Row) (old new : State) → Survives old new (CommitsShowing sql params old)
    → Survives old new (λ _. IsPlain (understood old.now.schema sql) → ⊥)
look_survives sql params old new survives =
    survives_weaker old new (CommitsShowing sql params old) (λ _. IsPlain (understood old.now.schema sql) → ⊥)
    (λ _ db commits plain. never_commits sql params old db plain commits) survives

-- ---- what the answers are, over the schema of the six tables

module _ (sql : List ℕ) (plain : IsPlain (understood desk_schema sql)) (unlisted : reads_listing desk_schema sql ≡ false) where
  pub finds : (tree : ℕ) (terms project : List Term) (names : List (List ℕ))
      → command_of (understood desk_schema sql) ≡ selection tree terms project names
      → (old new : State) (params : Row) (rows : List Row) → old.now.schema ≡ desk_schema → Shown sql params old new rows
      → Finds (passes terms params) (shows project params) (old.now.trees tree) rows
  finds tree terms project names is old new params rows has h =
      record {
        shown =
            plain_program tree terms project old.now.trees params rows
            (reads_as sql params old new desk_schema has (selection tree terms project names) is plain unlisted rows h).answer;
      }

  pub finds_least : (tree : ℕ) (terms : List Term) (column : ℕ) (names : List (List ℕ))
      → command_of (understood desk_schema sql) ≡ least tree terms column names
      → (old new : State) (params : Row) (rows : List Row) → old.now.schema ≡ desk_schema → Shown sql params old new rows
      → FindsLeast (passes terms params) column (old.now.trees tree) rows
  finds_least tree terms column names is old new params rows has h =
      least_program tree terms column old.now.trees params rows
      (reads_as sql params old new desk_schema has (least tree terms column names) is plain unlisted rows h).answer

-- of a result that holds the rows in a vector
module _ {V : Type 0} (items : V → List Row) (sql : List ℕ) (params : Row) (old new : State)
    (plain : IsPlain (understood old.now.schema sql)) where
  pub look_same : (r : Result V Error) → IfOk r (λ v. Shown sql params old new (items v)) → OnOk r (IsUnchanged old new)
  look_same (Ok v) shown = shown_unchanged sql params old new (items v) plain shown
  look_same (Err e) shown = tt

  pub look_rests : (r : Result V Error) → IfOk r (λ v. Shown sql params old new (items v))
      → IfErr r (FailsToQuery sql params old new) → Rests old new
  look_rests (Ok v) shown failed = rests_unchanged old new (shown_unchanged sql params old new (items v) plain shown)
  look_rests (Err e) shown failed = fails_rests sql params old new e plain failed

-- two tests that agree on the rows pick the same
pub finds_same : (p q : Row → Bool) (show : Row → Row) (rows answer : List Row) → ((row : Row) → Has rows row → p row ≡ q row)
    → Finds p show rows answer → Finds q show rows answer
finds_same p q show rows answer same h =
    record { shown = subst (λ l. IsPermutation (map show l) answer) (filter_same p q rows same) h.shown }

pub least_same : (p q : Row → Bool) (at : ℕ) (rows answer : List Row) → ((row : Row) → Has rows row → p row ≡ q row)
    → FindsLeast p at rows answer → FindsLeast q at rows answer
least_same p q at rows answer same h = record {
  none = λ none. sym (filter_same p q rows same) ∙ h.none none;
  some =
      λ shown more is. let it =
      h.some shown more is in (
        it.0,
        it.1,
        sym (same it.0 it.1)
            ∙ it.2,
        it.3,
        it.4,
        λ other there picked. it.5 other there (same other there ∙ picked),
      );
}

-- the least name from a text on, where the first cell of each row is a text
pub least_name : {V : Type 0} (items : V → List Row) (sql : List ℕ) (tree : ℕ) (names : List (List ℕ))
    → Runs sql (least tree (compared_with Ge 1 0 ∷ []) 1 names) → (from : List ℕ) (old new : State) (r : Result V Error) → IsOurs old.now
    → ((row : Row) → Has (old.now.trees tree) row → IsFilled kind.Text (column row 1))
    → IfOk r (λ v. Shown sql (Text from ∷ []) old new (items v))
    → IfOk r (λ v. FindsLeast (λ row. is_from_text from (column row 1)) 1 (old.now.trees tree) (items v))
least_name items sql tree names runs from old new (Err e) ours named shown = tt
least_name items sql tree names runs from old new (Ok v) ours named shown =
    least_same (passes (compared_with Ge 1 0 ∷ []) (Text from ∷ [])) (λ row. is_from_text from (column row 1)) 1
    (old.now.trees tree) (items v)
    (λ row h. let cell = named row h in rw (from_text from (column row 1) cell.of cell.filled, and_true) refl)
    (finds_least sql runs.plain runs.unlisted tree (compared_with Ge 1 0 ∷ []) 1 names runs.is old new (Text from ∷ []) (items v)
    ours.schema_is shown)

-- a query of the six tables that was answered so
pub reads_made : {A : Type 0} {Found : Kept → A → Type 0} {old new : State} {r : Result A Error} → Leaves old new r
    → (HasCleanDisk new → IsOurs old.now → IfOk r (Found (kept_in old.now.trees))) → Reads Found old new r
reads_made leaves found = record { leaves = leaves; found = found }

-- what is known of the schema
pub plain_here : (sql : List ℕ) (old : State) → IsOurs old.now → IsPlain (understood desk_schema sql)
    → IsPlain (understood old.now.schema sql)
plain_here sql old ours plain = subst (λ s. IsPlain (understood s sql)) (sym ours.schema_is) plain

pub ours_survives : (sql : List ℕ) (old new : State) → IsPlain (understood desk_schema sql)
    → Survives old new (λ _. IsPlain (understood old.now.schema sql) → ⊥) → Survives old new (λ _. IsOurs old.now → ⊥)
ours_survives sql old new plain survives =
    survives_weaker old new (λ _. IsPlain (understood old.now.schema sql) → ⊥) (λ _. IsOurs old.now → ⊥)
    (λ _ db never ours. never (plain_here sql old ours plain)) survives
