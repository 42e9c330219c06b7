-- The end of a transaction that raises the version.
use Rattle.std.proofs.Common.{◌≡◌, List, true, Ok, refl, sym, subst, ◌∙◌}
use Rattle.sqlite_trees.specs.declared.store.Store.{Ghosts}
use Rattle.sqlite_trees.specs.Tree.{Trees}
use Rattle.sqlite.specs.State.{State, Survives}
use Rattle.sqlite.specs.Held.{Held, state}
use Rattle.sqlite.proofs.Callers.{survives_begin}
use Rattle.sqlite.proofs.StateLemmas.{survives_then}
use Rattle.store.specs.declared.change.RowsBelow.{RowsBelow}
use Rattle.store.specs.Change.{with_each}
use Rattle.store_sql_rows.specs.Ours.{IsOurs, kept_in}
use Rattle.store_sql_rows.specs.Steps.{Steps, Turns, rows_dropped}
use Rattle.store_sql_rows.proofs.StepLemmas.{clean_before, then}
use Rattle.store_sql.specs.Leaving.{Answers}
use Rattle.store_sql_rows.specs.Stored.{Kept, tables_in}
use Rattle.store_sql.specs.Opening.{DropsEarly, IsChangedBy, IsFirst, IsRaised, IsReadToDrop, Raises, SetsVersion}
use Rattle.store_sql.proofs.OpenLemmas.{answered_sees}

-- the drop and then the version
pub raised : {A B C : Type 0} (dropped : List RowsBelow) (a b c : State) (x : A) (y : B) (z : C)
    → Steps {A = A} (Turns (with_each rows_dropped dropped)) a b (Ok x) → Steps {A = B} SetsVersion b c (Ok y)
    → Steps {A = C} (Raises dropped) a c (Ok z)
raised {A} {B} {C} dropped a b c x y z one two =
    let last : Steps {A = C} SetsVersion b c (Ok z) =
    record { done = λ clean at. two.done clean at; kept = two.kept; survives = two.survives } in
    then (Turns (with_each rows_dropped dropped)) SetsVersion (Raises dropped) a b c x (Ok z) (λ first. first.inside)
    (λ first second. record {
      turns = record {
        inside = second.turns.inside;
        makes = record {
          tables = second.turns.makes.tables ∙ first.makes.tables;
          is_sound = λ is. second.turns.makes.is_sound (first.makes.is_sound is);
          stands = λ asked stood. second.turns.makes.stands asked (first.makes.stands asked stood);
        };
      };
      version = second.version;
    })
    one last

module _ {S : Type 0} (g : Ghosts S) (old mid new : Held S) where
  abbrev begun : State
  begun = state g (record old { in_transaction = true })

  -- a stop leaves what was there before, or the whole drop with its version
  pub survives_raised : {A : Type 0} (dropped : List RowsBelow) (x : A) → Steps {A = A} (Raises dropped) begun (state g mid) (Ok x)
      → Survives (state g mid) (state g new) (λ trees. trees ≡ (state g mid).now.trees)
      → Survives (state g old) (state g new) (λ trees. IsOurs (state g old).now → IsChangedBy dropped (state g old).now.trees trees)
  survives_raised dropped x steps commits =
      let P = λ (trees : Trees). IsOurs (state g old).now → IsChangedBy dropped (state g old).now.trees trees in
      survives_begin g old (state g new) P
      (survives_then begun (state g mid) (state g new) (λ _. ⊥) (λ trees. trees ≡ (state g mid).now.trees) P (λ _ db none. absurd none)
      (λ clean db is ours.
      let done = steps.done (clean_before (state g mid) (state g new) _ commits clean) (record { in_transaction = refl; ours = ours }) in
      subst (λ (trees : Trees). IsChangedBy dropped (state g old).now.trees trees) (sym is)
      (record { makes = done.turns.makes; version = done.version }))
      steps.survives commits)

-- the drop of the early rows, with the version, raises the tables
raised_by : (dropped : List RowsBelow) (a b : State) (db : Trees) → IsFirst a → b.now ≡ a.now → DropsEarly (tables_in (kept_in a.now.trees)) dropped
    → IsChangedBy dropped b.now.trees db → IsRaised a.committed.trees db
raised_by dropped a b db first now drops changed =
    let same = now ∙ first.stands.same in
    let here : IsChangedBy dropped a.committed.trees db = subst (λ d. IsChangedBy dropped d.trees db) same changed in
    let early : DropsEarly (tables_in (kept_in a.committed.trees)) dropped =
    subst (λ d. DropsEarly (tables_in (kept_in d.trees)) dropped) first.stands.same drops in
    record {
      was = first.version;
      makes = record { tables = here.makes.tables ∙ early.makes; is_sound = here.makes.is_sound; stands = here.makes.stands };
      version = here.version;
    }

-- a stop leaves what was there before, or the raised tables
pub survives_migration : {V : Type 0} {Broken : Kept → Type 0} (items : V → List RowsBelow) (it : V) (a b c : State)
    → Answers (λ kept it. IsReadToDrop kept (items it)) Broken a b (Ok it)
    → Survives b c (λ trees. IsOurs b.now → IsChangedBy (items it) b.now.trees trees)
    → Survives a c (λ trees. IsFirst a → IsRaised a.committed.trees trees)
survives_migration items it a b c one two =
    survives_then a b c (λ _. IsOurs a.now → ⊥) (λ trees. IsOurs b.now → IsChangedBy (items it) b.now.trees trees)
    (λ trees. IsFirst a → IsRaised a.committed.trees trees)
    (λ _ db never first. absurd (never first.stands.ours))
    (λ clean db changed first.
    let was = clean_before b c _ two clean in
    let ours = first.stands.ours in
    let now = (answered_sees a b (one.asks was ours)).now in
    raised_by (items it) a b db first now (one.value was ours).0 (changed (subst IsOurs (sym now) ours)))
    one.survives two
