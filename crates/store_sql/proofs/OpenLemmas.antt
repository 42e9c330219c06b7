-- What the steps of an opening leave.
use Rattle.std.proofs.Common.{◌≡◌, inl, inr, ℕ, Bool, true, None, true≢false, List, ◌∷◌, Some, Ok, Err, Result, ℤ, slice_get, ◌⊎◌, pos, IsTrue, refl, sym, ap, subst, ◌∙◌, IfErr, IfOk, []}
use Rattle.std.specs.Result.{result_err}
use Rattle.sqlite_value.specs.Order.{Row, column}
use Rattle.sqlite.specs.declared.error.Error.{Error}
use Rattle.sqlite.specs.State.{IsNotRun, IsUnchanged, State}
use Rattle.sqlite.proofs.Callers.{one_permutation}
use Rattle.store_sql.specs.Leaving.{Asks, Sees}
use Rattle.store_sql_rows.specs.Looking.{Finds, Rests}
use Rattle.store_sql_rows.specs.Ours.{IsOne}
use Rattle.store_sql_rows.proofs.RestLemmas.{rests_unchanged}
use Rattle.store_sql_rows.specs.Cells.{number_in}
use Rattle.store_sql_rows.specs.declared.read_fault.ReadFault.{ReadFault}
use Rattle.store_sql_rows.specs.Ours.{IsOurs}
use Rattle.store_sql_rows.specs.declared.read_fault.ReadFault.TheVariants as read
use Rattle.store_sql.specs.declared.refusal.Refusal.TheVariants.{NotOurs}
use Rattle.store_sql.specs.Opening.{IsFound, IsJudged, IsKnown, IsSettled, as_version, is_sql, version_in, version_of}

pub sees_unchanged : (old new : State) → IsUnchanged old new → Sees old new
sees_unchanged old new same =
    record { now = same.0.now_is; committed = same.0.committed_is; is_open = same.0.is_open ∙ sym same.0.was_open }

-- a text that was not run leaves what the connection saw
pub not_run_rests : (sql : List ℕ) (params : Row) (old new : State) (e : Error) → IsNotRun old new sql params e → Rests old new
unfolding IsNotRun
not_run_rests sql params old new e (inl h) = rests_unchanged old new h.1
not_run_rests sql params old new e (inr h) =
    let back = h.3 in
    record { was_open = back.was_open; same = λ alike stands. ((back.undone stands).0 ∙ sym alike, (back.undone stands).1) }

-- the answer on `desk` is the cells of its one row
one_answer : (kept answer : List Row) (one : IsOne kept) → Finds (λ row. true) (λ row. column row 2 ∷ column row 3 ∷ []) kept answer
    → answer ≡ (column one.row 2 ∷ column one.row 3 ∷ []) ∷ []
one_answer kept answer one found = one_permutation (column one.row 2 ∷ column one.row 3 ∷ []) answer (rw one.is at found.shown)

first_cell : (kept answer : List Row) (row : Row) (one : IsOne kept)
    → Finds (λ row. true) (λ row. column row 2 ∷ column row 3 ∷ []) kept answer → Some row ≡ slice_get answer 0
    → version_in kept ≡ number_in (column row 0)
first_cell kept answer row one found first =
    let same : Some row ≡ Some (column one.row 2 ∷ column one.row 3 ∷ []) =
    first ∙ ap (λ l. slice_get l 0) (one_answer kept answer one found) in
    let row_is : row ≡ column one.row 2 ∷ column one.row 3 ∷ [] = cc in
    ap version_in one.is ∙ ap (λ r. number_in (column r 0)) (sym row_is)

-- the first row of the answer on `desk` tells what the one row of `desk` tells
pub version_reported : (kept answer : List Row) (row : Row) → IsOne kept
    → Finds (λ row. true) (λ row. column row 2 ∷ column row 3 ∷ []) kept answer → Some row ≡ slice_get answer 0
    → (r : Result ℤ ReadFault) → IfOk r (λ n. number_in (column row 0) ≡ Some n) → IfOk r (λ n. version_in kept ≡ Some n)
version_reported kept answer row one found first (Err e) reported = tt
version_reported kept answer row one found first (Ok n) reported = first_cell kept answer row one found first ∙ reported

pub version_unreported : (kept answer : List Row) (row : Row) → IsOne kept
    → Finds (λ row. true) (λ row. column row 2 ∷ column row 3 ∷ []) kept answer → Some row ≡ slice_get answer 0
    → (r : Result ℤ ReadFault) → IfErr r (λ _. number_in (column row 0) ≡ None) → IfErr r (λ _. version_in kept ≡ None)
version_unreported kept answer row one found first (Ok n) unreported = tt
version_unreported kept answer row one found first (Err e) unreported = first_cell kept answer row one found first ∙ unreported

-- the answer on `desk` has a row
pub never_empty : (kept answer : List Row) → IsOne kept → Finds (λ row. true) (λ row. column row 2 ∷ column row 3 ∷ []) kept answer
    → None ≡ slice_get answer 0 → ⊥
never_empty kept answer one found none =
    let same : None ≡ Some (column one.row 2 ∷ column one.row 3 ∷ []) = none ∙ ap (λ l. slice_get l 0) (one_answer kept answer one found) in
    let e = same in cc

-- what was looked at is a database of the six tables
pub judged_ours : (old mid : State) → IsSettled old → IsJudged true old mid → IsOurs mid.now
judged_ours old mid settled judged =
    let fit = settled.fitting judged.was_open in
    subst IsOurs (sym judged.now) (record { schema_is = fit.schema_is; sound = fit.sound; rows = judged.reported.0 refl })

-- the version was found in what was looked at
pub version_found : (reported : ℤ) (old mid new : State) → IsSettled old → IsJudged true old mid → Sees mid new
    → version_of mid.now.trees ≡ Some reported → IsFound reported old new
version_found reported old mid new settled judged sees version =
    let now = sees.now ∙ judged.now in
    let committed = sees.committed ∙ judged.committed in
    let same = now ∙ settled.same judged.was_open ∙ sym committed in
    record {
      stands = record {
        is_open = sees.is_open ∙ judged.is_open;
        ours = subst IsOurs (sym sees.now) (judged_ours old mid settled judged);
        same = same;
      };
      was_open = judged.was_open;
      now = now;
      committed = committed;
      version = ap (λ d. version_of d.trees) (sym same ∙ sees.now) ∙ version;
    }

-- a read that was answered changes nothing
pub answered_sees : (old new : State) → Asks None old new → Sees old new
answered_sees old new asks = elim asks.same [ inl refused ↦ absurd (true≢false (sym refused)) | inr sees ↦ sees ]

-- the version was read in what was looked at
pub version_read : (reported : ℤ) (own : Bool) (old mid new : State) → own ≡ true → IsSettled old → IsJudged own old mid
    → (IsOurs mid.now → Asks None mid new)
    → (IsOurs mid.now → version_of mid.now.trees ≡ Some reported) → IsFound reported old new
version_read reported own old mid new is settled judged asks version =
    let judged' : IsJudged true old mid = subst (λ b. IsJudged b old mid) is judged in
    let ours = judged_ours old mid settled judged' in
    version_found reported old mid new settled judged' (answered_sees mid new (asks ours)) (version ours)

-- ---- how the answer of the query on the version is reported

pub found_reported : (r : Result ℤ ReadFault) (own : Bool) (old mid new : State) → own ≡ true → IsSettled old → IsJudged own old mid
    → (IsOurs mid.now → Asks (result_err r) mid new) → (IsOurs mid.now → IfOk r (λ version. version_of mid.now.trees ≡ Some version))
    → IfOk (as_version r) (λ version. IsFound version old new)
found_reported (Ok reported) own old mid new is settled judged asks version = version_read reported own old mid new is settled judged asks version
found_reported (Err (read.Sql e)) own old mid new is settled judged asks version = tt
found_reported (Err read.BadRow) own old mid new is settled judged asks version = tt

pub faults_reported : (r : Result ℤ ReadFault) → IfErr (as_version r) (λ fault. IsTrue (is_sql fault) ⊎ (fault ≡ NotOurs))
faults_reported (Ok reported) = tt
faults_reported (Err (read.Sql e)) = inl refl
faults_reported (Err read.BadRow) = inr refl

known_version : (s : State) → IsKnown s → version_of s.committed.trees ≡ None → ⊥
known_version s known none = elim known.version [
  | inl first ↦ absurd (let e : Some (pos 1) ≡ None = sym first ∙ none in let n : ⊥ = cc in n)
  | inr second ↦ absurd (let e : Some (pos 2) ≡ None = sym second ∙ none in let n : ⊥ = cc in n)
]

-- a version that is known is a number
pub known_reported : (r : Result ℤ ReadFault) (own : Bool) (old mid : State) → own ≡ true → IsSettled old → IsJudged own old mid → IsKnown old
    → (IsOurs mid.now → r ≡ Err read.BadRow → version_of mid.now.trees ≡ None) → IfErr (as_version r) (λ fault. IsTrue (is_sql fault))
known_reported (Ok reported) own old mid is settled judged known bad = tt
known_reported (Err (read.Sql e)) own old mid is settled judged known bad = refl
known_reported (Err read.BadRow) own old mid is settled judged known bad =
    let judged' : IsJudged true old mid = subst (λ b. IsJudged b old mid) is judged in
    let none = bad (judged_ours old mid settled judged') refl in
    absurd (known_version old known (ap (λ d. version_of d.trees) (sym (judged.now ∙ known.stands.same)) ∙ none))
