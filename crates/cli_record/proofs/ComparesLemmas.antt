-- What comparisons tell, one after the other.
use Rattle.std.proofs.Common.{None, Ok, subst}
use Rattle.store.specs.Standing.{Content, Standing}
use Rattle.store.specs.Tables.{Tables}
use Rattle.store.proofs.ReadLemmas.{Reads-then, kept-read}
use Rattle.cli_record.specs.Compared.{Compares}

-- ---- what follows

-- something else is so
pub compares-as : {A B : Type 0} {First : Tables → Tables → A → Type 0} {Then : Tables → Tables → B → Type 0} {a : A} {b : B}
    {old new other_old other_new : Standing} → Compares First (Ok a) old new other_old other_new
    → (First old.content.tables other_old.content.tables a → Then old.content.tables other_old.content.tables b)
    → Compares Then (Ok b) old new other_old other_new
compares-as one follows =
    record { reads = one.reads; reads_other = one.reads_other; found = λ honest honest_other. follows (one.found honest honest_other) }

-- ---- one comparison after the other

pub compares-then : {A B C : Type 0} {First : Tables → Tables → A → Type 0} {Then : Tables → Tables → B → Type 0}
    {Both : Tables → Tables → C → Type 0} {a : A} {b : B} {c : C} {old mid new other_old other_mid other_new : Standing}
    → Compares First (Ok a) old mid other_old other_mid → Compares Then (Ok b) mid new other_mid other_new
    → (First old.content.tables other_old.content.tables a → Then old.content.tables other_old.content.tables b
    → Both old.content.tables other_old.content.tables c)
    → Compares Both (Ok c) old new other_old other_new
compares-then {Then = Then} {b = b} {old = old} {mid = mid} {new = new} {other_old = other_old} {other_mid = other_mid} {other_new = other_new} one two follows = record {
  reads = Reads-then None old mid new one.reads two.reads;
  reads_other = Reads-then None other_old other_mid other_new one.reads_other two.reads_other;
  found = λ honest honest_other.
      let was = two.reads.goes.honest honest in
      let was_other = two.reads_other.goes.honest honest_other in
      follows (one.found was was_other)
      (subst (λ (k : Content). Then old.content.tables k.tables b) (kept-read other_old other_mid one.reads_other was_other)
      (subst (λ (k : Content). Then k.tables other_mid.content.tables b) (kept-read old mid one.reads was) (two.found honest honest_other)));
}
