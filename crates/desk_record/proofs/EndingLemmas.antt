-- A file of which the last whole line tells a delivery, or which has no line.
use Rattle.std.proofs.Common.{◌≡◌, ℕ, ◌≤◌, List, [], ◌∷◌, ◌++◌, Option, Some, None, Result, Ok, Err, length, length-append, take, refl, sym, ap, ◌∙◌, subst, append_assoc, arith, inl, inr}
use Rattle.std.proofs.Math.Seq.{take-append_seam}
use Rattle.std.proofs.lemmas.List.{append-nil, same_from_push}
use Rattle.std.specs.Result.{OnErr}
use Rattle.building.specs.Building.{Building}
use Rattle.deliveries.specs.declared.delivery.Delivery.{Delivery}
use Rattle.deliveries.specs.Tables.{tables}
use Rattle.desk_record.specs.LastLine.{TellsLast}
use Rattle.desk_record.specs.Lines.{IsWhole, whole_lines}
use Rattle.delivery_json.specs.LineEnds.{IsLine}
use Rattle.desk_record.specs.Recorded.{Follows, HasTables, IsBehind, IsLineOf, listed}
use Rattle.desk_record.specs.Resuming.{IsMended, KeepsLines}
use Rattle.desk_record.specs.Torn.{IsTorn}
use Rattle.desk_record.proofs.DiskLemmas.{cut-done}
use Rattle.desk_record.proofs.InStepLemmas.{listed-put, listed-same}
use Rattle.desk_record.proofs.LineLemmas.{IsWhole-more, whole-append, whole_lines-none}
use Rattle.sqlite_disk.specs.Disk.{Cut, Only}
use Rattle.store.specs.Standing.{Content, Standing, sound}

pub on-err : {T E : Type 0} (result : Result T E) (X : Type 0) → X → OnErr result X
on-err (Ok answer) X said = tt
on-err (Err error) X said = said

-- the lines behind which the rest stands, with the last one
parted : (before line after : List ℕ) → before ++ (line ++ 10 ∷ after) ≡ (before ++ (line ++ 10 ∷ [])) ++ after
parted before line after =
    ap (λ rest. before ++ rest) (sym (append_assoc line (10 ∷ []) after)) ∙ sym (append_assoc before (line ++ 10 ∷ []) after)

listed-cut : (b : Building) (bytes after : List ℕ) → IsWhole bytes → IsLine after → listed b (bytes ++ after) ≡ listed b bytes
listed-cut b bytes after whole none =
    listed-same b bytes (bytes ++ after)
    (whole-append bytes after whole ∙ ap (λ lines. whole_lines bytes ++ lines) (whole_lines-none after none) ∙ append-nil (whole_lines bytes))

listed-none : (b : Building) (file : List ℕ) → IsLine file → listed b file ≡ []
unfolding listed
listed-none b file none = listed-same b [] file (whole_lines-none file none)

pub listed-last : (b : Building) (file before line after : List ℕ) (d : Delivery) → file ≡ before ++ (line ++ 10 ∷ after)
    → IsWhole before → IsLineOf b d line → IsLine after → listed b file ≡ listed b before ++ d ∷ []
listed-last b file before line after d is whole tells none =
    ap (listed b) (is ∙ parted before line after)
    ∙ listed-cut b (before ++ (line ++ 10 ∷ [])) after (IsWhole-more before line) none
    ∙ listed-put b d before line whole tells

-- ---- what is left of the file

record IsCut (b : Building) (file : List ℕ) (whole : ℕ) : Type 0 where
  within : whole ≤ length file
  ended : IsWhole (take whole file)
  lists : listed b (take whole file) ≡ listed b file
  torn : (rest : List ℕ) × (file ≡ take whole file ++ rest) × IsTorn rest

cut-of : (b : Building) (file : List ℕ) (whole : ℕ) (delivery : Option Delivery) → TellsLast b file whole delivery → IsCut b file whole
cut-of b file whole None (start, none) = record {
  within = omega (arith, start);
  ended = inl (ap (λ n. take n file) start);
  lists = ap (λ n. listed b (take n file)) start ∙ sym (listed-same b [] file (whole_lines-none file none.0));
  torn = (file, sym (ap (λ n. take n file ++ file) start), none);
}
cut-of b file whole (Some d) (before, line, after, is, size, first, tells, none) =
    let front = before ++ (line ++ 10 ∷ []) in
    let all = is ∙ parted before line after in
    let cut : take whole file ≡ front = ap (λ n. take n file) (sym size) ∙ ap (take (length front)) all ∙ take-append_seam front after in
    record {
      within = omega (arith, size, ap length all, length-append front after);
      ended = subst IsWhole (sym cut) (IsWhole-more before line);
      lists = ap (listed b) cut ∙ sym (ap (listed b) all ∙ listed-cut b front after (IsWhole-more before line) none.0);
      torn = (after, all ∙ ap (λ lines. lines ++ after) (sym cut), none);
    }

module _ (b : Building) (file new : List ℕ) (whole : ℕ) (delivery : Option Delivery) (tells : TellsLast b file whole delivery)
    (cut : Cut whole file new) where
  pub keeps-lines : KeepsLines b file new
  keeps-lines = inr (whole, (cut-of b file whole delivery tells).lists, cut)

  pub is-mended : (may_leave : List ℕ → Type 0) → length new ≡ whole → Only new may_leave → IsMended b file new may_leave
  is-mended may_leave size only =
      let left = cut-of b file whole delivery tells in
      let is = cut-done file new whole left.within cut size in
      record {
        whole = subst IsWhole (sym is) left.ended;
        torn = let (rest, joined, torn) = left.torn in (rest, joined ∙ ap (λ lines. lines ++ rest) (sym is), torn);
        lists = ap (listed b) is ∙ left.lists;
        on_disk = only;
      }

-- ---- the store

no-last : (list before : List Delivery) (last : Delivery) → list ≡ [] → list ≡ before ++ last ∷ [] → ⊥
no-last list [] last none some = let both : [] ≡ last ∷ [] = sym none ∙ some in cc
no-last list (first ∷ before) last none some = let both : [] ≡ first ∷ (before ++ last ∷ []) = sym none ∙ some in cc

only-whole : (b : Building) (E list : List Delivery) (content : Content) → list ≡ [] → Follows b E list content
    → content ≡ sound (tables b (E ++ list))
only-whole b E list content none (inl whole) = whole
only-whole b E list content none (inr (before, last, is, held)) = absurd (no-last list before last none is)

pub has-none : (b : Building) (E : List Delivery) (file : List ℕ) (whole : ℕ) (delivery : Option Delivery) (store : Standing)
    → delivery ≡ None → TellsLast b file whole delivery → IsBehind b E (listed b file) store → HasTables b (E ++ listed b file) store
has-none b E file whole None store is (start, none) behind = record {
  holds = λ opened. only-whole b E (listed b file) store.content (listed-none b file none.0) (behind.holds opened);
  leaves = λ content left. only-whole b E (listed b file) content (listed-none b file none.0) (behind.leaves content left);
}
has-none b E file whole (Some d) store is tells behind = absurd (let no : ⊥ = cc in no)

-- of a list that ends with a delivery the earlier ones may stand in front of it
joined : (b : Building) (E list : List Delivery) (d : Delivery) (content : Content) → Follows b E (list ++ d ∷ []) content
    → Follows b [] ((E ++ list) ++ d ∷ []) content
joined b E list d content (inl whole) = inl (whole ∙ ap (λ it. sound (tables b it)) (sym (append_assoc E list (d ∷ []))))
joined b E list d content (inr (before, last, is, held)) =
    inr (E ++ list, d, refl, held ∙ ap (λ it. sound (tables b (E ++ it))) (sym (same_from_push list before d last is).0))

apart : (b : Building) (E list : List Delivery) (d : Delivery) (content : Content) → Follows b [] ((E ++ list) ++ d ∷ []) content
    → Follows b E (list ++ d ∷ []) content
apart b E list d content (inl whole) = inl (whole ∙ ap (λ it. sound (tables b it)) (append_assoc E list (d ∷ [])))
apart b E list d content (inr (before, last, is, held)) =
    inr (list, d, refl, held ∙ ap (λ it. sound (tables b it)) (sym (same_from_push (E ++ list) before d last is).0))

module _ (b : Building) (E : List Delivery) (file : List ℕ) (whole : ℕ) (d : Delivery) (old new : Standing) where
  -- the store that follows the file's list follows it with the earlier ones in front
  in-front : (list : List Delivery) → listed b file ≡ list ++ d ∷ [] → IsBehind b E (listed b file) old
      → IsBehind b [] ((E ++ list) ++ d ∷ []) old
  in-front list lists behind =
      let same = subst (λ it. IsBehind b E it old) lists behind in
      record {
        holds = λ opened. joined b E list d old.content (same.holds opened);
        leaves = λ content left. joined b E list d content (same.leaves content left);
      }

  pub has-last : (delivery : Option Delivery) → delivery ≡ Some d → TellsLast b file whole delivery
      → ((earlier : List Delivery) → IsBehind b [] (earlier ++ d ∷ []) old → HasTables b (earlier ++ d ∷ []) new)
      → IsBehind b E (listed b file) old → HasTables b (E ++ listed b file) new
  has-last delivery is tells made behind =
      let (before, line, after, all, size, first, reported, none) = subst (TellsLast b file whole) is tells in
      let list = listed b before in
      let lists = listed-last b file before line after d all first reported none.0 in
      subst (λ it. HasTables b it new) (append_assoc E list (d ∷ []) ∙ ap (λ it. E ++ it) (sym lists))
      (made (E ++ list) (in-front list lists behind))

  pub stays-behind : (delivery : Option Delivery) → delivery ≡ Some d → TellsLast b file whole delivery
      → ((earlier : List Delivery) → IsBehind b [] (earlier ++ d ∷ []) old → IsBehind b [] (earlier ++ d ∷ []) new)
      → IsBehind b E (listed b file) old → IsBehind b E (listed b file) new
  stays-behind delivery is tells kept behind =
      let (before, line, after, all, size, first, reported, none) = subst (TellsLast b file whole) is tells in
      let list = listed b before in
      let lists = listed-last b file before line after d all first reported none.0 in
      let now = kept (E ++ list) (in-front list lists behind) in
      subst (λ it. IsBehind b E it new) (sym lists) record {
        holds = λ opened. apart b E list d new.content (now.holds opened);
        leaves = λ content left. apart b E list d content (now.leaves content left);
      }
