-- A store that was read beside a record.
use Rattle.std.proofs.Common.{◌≡◌, ◌∙◌, ℕ, Bool, true, false, ◌&&◌, ◌||◌, not, is_none, is_some, List, ◌∷◌, ◌++◌, Option, Some, None, Result, Ok, Err, ap, refl, sym, subst, true≢false, []}
use Rattle.std.specs.Prelude.{IfErr, IfOk}
use Rattle.std.proofs.lemmas.Bool.{false≢true}
use Rattle.std.proofs.lemmas.Option.{same_Some}
use Rattle.building.specs.Building.{Building}
use Rattle.cli_base.specs.Base.{BeginsOn}
use Rattle.deliveries.specs.declared.delivery.Delivery.{Delivery}
use Rattle.desk.specs.Opening.{Opens}
use Rattle.store.proofs.ReadLemmas.{kept-read, stays_open, was_open}
use Rattle.store.specs.declared.fault.StoreFault.{StoreFault}
use Rattle.store.specs.declared.open_fault.OpenFault.{OpenFault}
use Rattle.store.specs.Standing.{IsSettled, Reads, Standing}
use Rattle.store_memory.specs.declared.mem_store.MemStore.{MemStore}
use Rattle.store_memory.specs.Memory.{standing_of}
use Rattle.cli_record.specs.declared.difference.Difference.{Difference}
use Rattle.cli_record.specs.declared.beside_fault.BesideFault.{BesideFault}
use Rattle.cli_record.specs.Belonging.{IsMatched, IsOfRecord, TellsOtherwise}
use Rattle.cli_record.specs.Beside.{HoldsStill, MissesDatabase, OpensBeside, OpensOver, ReadsBeside, RefusesBeside, RefusesOver, tells_no_database, told_by}
use Rattle.cli_record.specs.RecordRun.{Lists}
use Rattle.cli_record.specs.Replayed.{IsReplayed}

-- once a desk was opened over it, or was not
pub still-opened : (b : Building) (fault : Option StoreFault) (old new : Standing) → Opens b fault old new → HoldsStill old new
still-opened b fault old new opens = record {
  honest = opens.goes.honest;
  kept = λ honest going. opens.kept honest (λ failed. false≢true (sym going ∙ (opens.goes.failed failed).0));
  left = opens.left;
}

-- after a read, and then so
pub still-then : (first second third : Standing) → Reads None first second → HoldsStill second third → HoldsStill first third
still-then first second third reads still = record {
  honest = λ honest. reads.goes.honest (still.honest honest);
  kept = λ honest going. still.kept honest going ∙ kept-read first second reads (still.honest honest);
  left = λ honest was content may.
      still.left honest (stays_open first second reads.goes) content may ∙ kept-read first second reads (still.honest honest);
}

-- a store that was settled, and was left alone
pub still-same : (standing : Standing) → IsSettled standing → HoldsStill standing standing
still-same standing settled = record { honest = λ honest. honest; kept = λ honest going. refl; left = settled }

-- ---- a record beside which no database was missing, or one was

-- where a database is missing there is no base, and nothing was held back
pub lists-none : (is_missing : Bool) (b : Building) (bytes : List ℕ) (base : Option MemStore) (last : Option Delivery) (replayed : Standing)
    → (is_missing && (is_some base || not (is_none last))) ≡ false → is_missing ≡ true
    → ((earlier : List Delivery) → BeginsOn standing_of b earlier base → IsReplayed b earlier bytes last replayed)
    → Lists b bytes []
lists-none true b bytes None None replayed found missing replays =
    let is = replays [] refl in
    subst (Lists b bytes) (ap (λ ds. ds ++ []) (is.back.none refl)) is.lists
lists-none true b bytes None (Some delivery) replayed found missing replays = absurd (true≢false found)
lists-none true b bytes (Some store) last replayed found missing replays = absurd (true≢false found)
lists-none false b bytes base last replayed found missing replays = absurd (false≢true missing)

pub no-base : (is_missing : Bool) (base : Option MemStore) (last : Option Delivery)
    → (is_missing && (is_some base || not (is_none last))) ≡ false → is_missing ≡ true → base ≡ None
no-base true None last found missing = refl
no-base true (Some store) last found missing = absurd (true≢false found)
no-base false base last found missing = absurd (false≢true missing)

has-last : (before : List Delivery) (last : Delivery) → before ++ last ∷ [] ≡ [] → ⊥
has-last [] last none = cc
has-last (delivery ∷ before) last none = cc

-- where a database is missing beside deliveries that were held back, or a base, that is so
pub misses_deliveries : (is_missing : Bool) (b : Building) (base : Option MemStore) (may_have : List ℕ → Type 0) (last : Option Delivery)
    (replayed : Standing) → (is_missing && (is_some base || not (is_none last))) ≡ true
    → ((earlier : List Delivery) (bytes : List ℕ) → BeginsOn standing_of b earlier base → may_have bytes
    → IsReplayed b earlier bytes last replayed)
    → (is_missing ≡ true)
    × (base ≡ None → (bytes : List ℕ) → may_have bytes → (deliveries : List Delivery) × Lists b bytes deliveries × (deliveries ≡ [] → ⊥))
misses_deliveries false b base may_have last replayed found replays = absurd (false≢true found)
misses_deliveries true b (Some store) may_have last replayed found replays = (refl, λ none. absurd (let no : Some store ≡ None = none in cc))
misses_deliveries true b None may_have None replayed found replays = absurd (false≢true found)
misses_deliveries true b None may_have (Some delivery) replayed found replays =
    (refl, λ none bytes has. let is = replays [] bytes refl has in (is.made ++ delivery ∷ [], is.lists, has-last is.made delivery))

-- another fault tells nothing of it
pub misses_none : (is_missing : Bool) (b : Building) (base : Option MemStore) (may_have : List ℕ → Type 0) (fault : BesideFault)
    → tells_no_database fault ≡ false → MissesDatabase is_missing b base may_have fault
misses_none is_missing b base may_have fault is = λ tells. absurd (false≢true (sym is ∙ tells))

-- ---- a desk that is opened then, or not

module _ (b : Building) (last : Option Delivery) (replayed old mid : Standing) (difference : Option Difference)
    (reads : Reads None old mid)
    (matched : (earlier : List Delivery) (bytes : List ℕ) → IsReplayed b earlier bytes last replayed → mid.is_honest
    → IsMatched b earlier bytes old.content.tables difference) where
  own : (earlier : List Delivery) (bytes : List ℕ) → IsMatched b earlier bytes old.content.tables None
      → IsOfRecord b earlier bytes old.content.tables
  own earlier bytes (deliveries, lists, belongs) = record { deliveries = deliveries; lists = lists; belongs = belongs }

  pub opens-over : (building : Building) (otherwise : Option Difference) (new : Standing) → difference ≡ None → Opens building None mid new
      → ((earlier : List Delivery) (bytes : List ℕ) → IsReplayed b earlier bytes last replayed → mid.is_honest
      → TellsOtherwise b earlier bytes old.content.tables otherwise)
      → OpensOver b last replayed otherwise old new
  opens-over building otherwise new none opens tells = record {
    was_open = was_open None old mid reads.goes (λ e. cc);
    is_open = stays_open mid new opens.goes;
    still = still-then old mid new reads (still-opened building None mid new opens);
    own = λ honest earlier bytes is.
        own earlier bytes
        (subst (IsMatched b earlier bytes old.content.tables) none (matched earlier bytes is (opens.goes.honest honest)));
    told = λ honest earlier bytes is. tells earlier bytes is (opens.goes.honest honest);
  }

  pub refuses-over : (fault : BesideFault) (left : Standing) → told_by fault ≡ difference → (IsSettled mid → HoldsStill mid left)
      → RefusesOver b last replayed old left fault
  refuses-over fault left is still =
      let after = still reads.goes.settled in
      record {
        still = still-then old mid left reads after;
        told = λ honest earlier bytes replays told_difference told.
            subst (IsMatched b earlier bytes old.content.tables) (sym is ∙ told) (matched earlier bytes replays (after.honest honest));
      }

-- a store that was opened beside a record on a base, where the database was not missing, or the record has nothing
module _ {S : Type 0} (standing : S → Standing) (may_open : Result S OpenFault → Type 0) (is_missing : Bool) (b : Building)
    (base : Option MemStore) (may_have : List ℕ → Type 0) (last : Option Delivery) (replayed : Standing) (opened : S)
    (is_opened : may_open (Ok opened))
    (replays : (earlier : List Delivery) (bytes : List ℕ) → BeginsOn standing_of b earlier base → may_have bytes
    → IsReplayed b earlier bytes last replayed)
    (found : (is_missing && (is_some base || not (is_none last))) ≡ false) where
  reads-beside : (now : Standing) → HoldsStill (standing opened) now → ReadsBeside standing may_open is_missing b base may_have now
  reads-beside now still = record {
    opened = opened;
    is_opened = is_opened;
    made = λ missing. (
      no-base is_missing base last found missing,
      λ bytes has. lists-none is_missing b bytes base last replayed found missing (λ earlier begins. replays earlier bytes begins has),
    );
    still = still;
  }

  pub opens-beside : (otherwise : Option Difference) (now : Standing) → OpensOver b last replayed otherwise (standing opened) now
      → OpensBeside standing may_open is_missing b base may_have otherwise now
  unfolding reads-beside
  opens-beside otherwise now over = record {
    reads = reads-beside now over.still;
    was_open = over.was_open;
    is_open = over.is_open;
    own = λ honest earlier begins bytes has. over.own honest earlier bytes (replays earlier bytes begins has);
    told = λ honest earlier begins bytes has. over.told honest earlier bytes (replays earlier bytes begins has);
  }

  -- and is left as another one that is the same
  pub refuses-beside : (fault : BesideFault) (mid left : S) → Some mid ≡ Some left
      → RefusesOver b last replayed (standing opened) (standing mid) fault
      → RefusesBeside standing may_open is_missing b base may_have fault (standing left)
  unfolding reads-beside
  refuses-beside fault mid left same over =
      subst (λ s. RefusesBeside standing may_open is_missing b base may_have fault (standing s)) (same_Some _ _ same) (record {
        reads = reads-beside (standing mid) over.still;
        told = λ honest earlier begins bytes has. over.told honest earlier bytes (replays earlier bytes begins has);
      })

-- what follows from what an `Ok` tells, and from what an `Err` does
pub if-ok : {A E : Type 0} {P Q : A → Type 0} (r : Result A E) → ((a : A) → P a → Q a) → IfOk r P → IfOk r Q
if-ok (Ok a) follows p = follows a p
if-ok (Err e) follows p = tt

pub if-both : {A E : Type 0} {P Q R : A → Type 0} (r : Result A E) → ((a : A) → P a → Q a → R a) → IfOk r P → IfOk r Q → IfOk r R
if-both (Ok a) follows p q = follows a p q
if-both (Err e) follows p q = tt

pub if-err : {A E : Type 0} {P Q : E → Type 0} (r : Result A E) → ((e : E) → P e → Q e) → IfErr r P → IfErr r Q
if-err (Ok a) follows p = tt
if-err (Err e) follows p = follows e p
