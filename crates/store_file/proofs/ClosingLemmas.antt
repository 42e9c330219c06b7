-- What a close leaves, said of the connection that it closes.
use Rattle.std.proofs.Common.{◌≡◌, ◌≤◌, IsTrue, Result, Ok, Err, IfOk, IfErr, refl, subst, arith}
use Rattle.sqlite_disk.specs.declared.Disk.{Ghosts}
use Rattle.sqlite_disk.specs.declared.Files.{Files}
use Rattle.sqlite_trees.specs.Tree.{Trees}
use Rattle.sqlite_trees.specs.View.{View, IsClean, IsRolledBack, doubt}
use Rattle.sqlite_wal.specs.Reads.{AreClean}
use Rattle.sqlite.specs.Closing.{HoldsAlone}
use Rattle.sqlite.specs.Files.{image_of}
use Rattle.store_sql_rows.specs.Ours.{content_of}
use Rattle.store_file.specs.Closed.{IsAtRest, Rests}

module _ {D E : Type 0} (g : Ghosts D) (before after : View) (undone : IsRolledBack before after) where
  -- the tables of the last commit are at rest
  pub rests_as_before : (result : Result (Files D) E) → IfOk result (λ files. AreClean g files.log files.db → Rests g files after.committed)
      → IfOk result (λ files. AreClean g files.log files.db → IsClean after × IsTrue after.is_open)
      → IfOk result (λ files. AreClean g files.log files.db → IsAtRest g files (content_of before.committed))
  rests_as_before (Ok files) rests honest = λ clean.
      let is = honest clean in
      let same = (undone.kept is.0).committed is.1 in
      record {
        db = before.committed;
        content_is = refl;
        seen = subst (HoldsAlone (image_of g files)) same (rests clean).seen;
        left = λ image may. subst (HoldsAlone image) same ((rests clean).left image may);
      }
  rests_as_before (Err e) rests honest = tt

  -- and the disk was honest before
  pub was_honest : doubt before.is_clean ≤ doubt after.is_clean → (result : Result (Files D) E)
      → IfOk result (λ files. AreClean g files.log files.db → IsClean after × IsTrue after.is_open)
      → IfOk result (λ files. AreClean g files.log files.db → IsClean before)
  was_honest rises (Ok files) honest = λ clean. let is = (honest clean).0 in omega (arith, rises)
  was_honest rises (Err e) honest = tt

-- what a stop leaves could be left before
pub left_as_before : {F X K : Type 0} (after : X → Trees → Type 0) (middle before : Trees → Type 0) (result : Result F (K × X))
    → ((db : Trees) → middle db → before db) → IfErr result (λ left. (db : Trees) → after left.1 db → middle db)
    → IfErr result (λ left. (db : Trees) → after left.1 db → (was : Trees) × before was × (content_of db ≡ content_of was))
left_as_before after middle before (Ok files) earlier kept = tt
left_as_before after middle before (Err left) earlier kept = λ db held. (db, earlier db (kept db held), refl)
