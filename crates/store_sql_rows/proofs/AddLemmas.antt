-- Where a row could be added, none of its key stood.
use Rattle.std.proofs.Common.{◌≡◌, ◌∙◌, inl, inr, ℕ, Bool, Result, Ok, Err, OnOk, List, true, false, not, true≢false, ◌∷◌, sym, ap, subst}
use Rattle.std.proofs.lemmas.Bool.{cases_Bool}
use Rattle.sqlite_rules.specs.Edit.{is_taken}
use Rattle.sqlite_rules.specs.Lists.{Has}
use Rattle.sqlite_trees.specs.Tree.{rowid}
use Rattle.sqlite_value.specs.declared.value.Value.{Value}
use Rattle.sqlite_value.specs.Order.{Row}
use Rattle.sqlite.specs.declared.error.Error.{Error}
use Rattle.sqlite.specs.State.{State}
use Rattle.store_sql_rows.specs.Ours.{Adds, Changes, Gains, HasOneMore, Loses, kept_in}
use Rattle.store_sql_rows.specs.Slot.{On, Slot}
use Rattle.store_sql_rows.proofs.RowLemmas.{filter_all, filter_same, has_more, has_new, tied_taken}

-- where no two rows have one key, none had that of a row that was added
pub none_of_key : (key : Row → Bool) (added : Row) (rows now : List Row) → HasOneMore added rows now → is_taken rows added ≡ false
    → key added ≡ true
    → ((a b : Row) → Has now a → Has now b → key a ≡ true → key b ≡ true → rowid a ≡ rowid b)
    → Loses key rows rows
none_of_key key added rows now more free own one =
    let there : Has now added = subst (λ l. Has l added) (sym more.is) (has_new more.before more.after added) in
    let none : (row : Row) → Has rows row → true ≡ not (key row) =
    λ row h. elim (cases_Bool (key row)) [
      | inl same ↦
          let still : Has now row =
          subst (λ l. Has l row) (sym more.is) (has_more more.before more.after added row (subst (λ l. Has l row) more.was h)) in
          let taken = tied_taken added rows row h (one row added still there same own) in
          absurd (true≢false (sym taken ∙ free))
      | inr other ↦ ap not (sym other)
    ] in
    filter_all rows ∙ filter_same (λ r. true) (λ r. not (key r)) rows none

adds_where_free : (slot : Slot) (gone : Row → Bool) (cells : Row) (old new : State) → ((id : Value) → gone (id ∷ cells) ≡ true)
    → ((a b : Row) → Has (slot.get (kept_in new.now.trees)) a → Has (slot.get (kept_in new.now.trees)) b
    → gone a ≡ true → gone b ≡ true → rowid a ≡ rowid b)
    → Changes (On slot (Gains cells)) old new → Changes (On slot (Adds gone cells)) old new
adds_where_free slot gone cells old new own one it =
    let gains = it.change.rows in
    record {
      seen = it.seen;
      ours = it.ours;
      change =
          record {
            others = it.change.others;
            rows = (
              none_of_key gone (gains.id ∷ cells) (slot.get (kept_in old.now.trees)) (slot.get (kept_in new.now.trees)) gains.more
                  gains.free (own gains.id) one,
              gains,
            );
          };
    }

pub adds_alone : (slot : Slot) (gone : Row → Bool) (cells : Row) (old new : State) (result : Result ℕ Error)
    → ((id : Value) → gone (id ∷ cells) ≡ true)
    → ((it : Changes (On slot (Gains cells)) old new) → (a b : Row) → Has (slot.get (kept_in new.now.trees)) a
    → Has (slot.get (kept_in new.now.trees)) b → gone a ≡ true → gone b ≡ true → rowid a ≡ rowid b)
    → OnOk result (Changes (On slot (Gains cells)) old new) → OnOk result (Changes (On slot (Adds gone cells)) old new)
adds_alone slot gone cells old new (Ok count) own one it = adds_where_free slot gone cells old new own (one it) it
adds_alone slot gone cells old new (Err e) own one it = tt
