-- The last delivery of a list, made once more.
use Rattle.std.proofs.Common.{◌≡◌, ◌⊎◌, ℕ, ◌+◌, ◌-◌, ◌<◌, ◌≤◌, List, [], ◌∷◌, ◌++◌, Some, None, Ok, Err, length, length-drop, take, drop, slice_index, refl, sym, ap, ◌∙◌, subst, arith, rules, inl, inr}
use Rattle.std.proofs.lemmas.Bool.{false≢true}
use Rattle.std.proofs.lemmas.List.{places, same_from_push, take-append-drop}
use Rattle.std.proofs.Math.Seq.{take-append_seam}
use Rattle.sqlite_disk.specs.Disk.{Holds as Reads}
use Rattle.building.specs.Building.{Building}
use Rattle.deliveries.specs.declared.delivery.Delivery.{Delivery}
use Rattle.deliveries.specs.declared.reply.Reply.{Reply}
use Rattle.deliveries.specs.Delivered.{Delivers, Holds}
use Rattle.deliveries.specs.Laws.{HasDistinctSchedules}
use Rattle.deliveries.specs.Tables.{tables}
use Rattle.desk_record.specs.Recorded.{Follows, HasTables, IsBehind}
use Rattle.desk_record.specs.Resuming.{IsEndOf}
use Rattle.desk_record.proofs.DiskLemmas.{same-bytes}
use Rattle.desk_record.proofs.DeliveredAgain.{keeps-record}
use Rattle.desk_record.proofs.InStepLemmas.{HasTables-settled}
use Rattle.store.specs.declared.fault.StoreFault.{StoreFault}
use Rattle.store.specs.declared.fault.StoreFault.TheVariants.{NoMemory, Failed, Shut, BadRow}
use Rattle.store.specs.Standing.{Content, Goes, Standing, sound}
use Rattle.store.proofs.ReadLemmas.{stays_open, was_open}

-- tables of a list that ends with a delivery are those with it or those without it
either-of : (b : Building) (E : List Delivery) (d : Delivery) (content : Content) → Follows b [] (E ++ d ∷ []) content
    → (content ≡ sound (tables b (E ++ d ∷ []))) ⊎ (content ≡ sound (tables b E))
either-of b E d content (inl whole) = inl whole
either-of b E d content (inr (earlier, last, is, held)) =
    inr (held ∙ ap (λ list. sound (tables b list)) (sym (same_from_push E earlier d last is).0))

module _ (b : Building) (E : List Delivery) (d : Delivery) (old new : Standing) (distinct : HasDistinctSchedules b)
    (behind : IsBehind b [] (E ++ d ∷ []) old) (honest : new.is_honest) where
  pub made-again : (reply : Reply) → Goes None old new
      → ((earlier : List Delivery) → Holds b earlier old → Delivers b earlier d (Ok reply) new) → HasTables b (E ++ d ∷ []) new
  made-again reply goes delivers =
      let opened = was_open None old new goes (λ e. cc) in
      HasTables-settled b (E ++ d ∷ []) None old new honest goes (stays_open old new goes)
      (elim (either-of b E d old.content (behind.holds opened)) [
        | inl whole ↦ keeps-record b E d (Ok reply) new distinct (delivers (E ++ d ∷ []) whole)
        | inr without ↦ (delivers E without).1
      ])

  -- an open store that has refused a delivery holds what it held
  refused : (fault : StoreFault) → (fault ≡ Failed → ⊥) → (fault ≡ Shut → ⊥) → Goes (Some fault) old new
      → ((earlier : List Delivery) → Holds b earlier old → Holds b earlier new) → IsBehind b [] (E ++ d ∷ []) new
  refused fault other not_shut goes keeps =
      let opened = was_open (Some fault) old new goes (λ e. not_shut (let same : fault ≡ Shut = cc in same)) in
      let stays = goes.goes_on (λ e. other (let same : fault ≡ Failed = cc in same)) ∙ opened in
      let held : Follows b [] (E ++ d ∷ []) new.content =
      elim (either-of b E d old.content (behind.holds opened)) [
        | inl whole ↦ inl (keeps (E ++ d ∷ []) whole)
        | inr without ↦ inr (E, d, refl, keeps E without)
      ] in
      record {
        holds = λ going. held;
        leaves = λ content left. subst (Follows b [] (E ++ d ∷ [])) (sym (goes.settled honest stays content left)) held;
      }

  pub behind-again : (fault : StoreFault) → Goes (Some fault) old new
      → ((earlier : List Delivery) → Holds b earlier old → Delivers b earlier d (Err fault) new) → IsBehind b [] (E ++ d ∷ []) new
  behind-again NoMemory goes delivers = refused NoMemory (λ e. cc) (λ e. cc) goes delivers
  behind-again Failed goes delivers =
      let opened = was_open (Some Failed) old new goes (λ e. cc) in
      let shut = (goes.failed refl).0 in
      record {
        holds = λ going. absurd (false≢true (sym going ∙ shut));
        leaves = λ content left. elim (either-of b E d old.content (behind.holds opened)) [
          | inl whole ↦ inl (keeps-record b E d (Err Failed) new distinct (delivers (E ++ d ∷ []) whole) content left)
          | inr without ↦ elim (delivers E without content left) [
            | inl before ↦ inr (E, d, refl, before)
            | inr after ↦ inl after
          ]
        ];
      }
  behind-again Shut goes delivers =
      let shut = goes.shut.0 refl in
      let same = goes.untouched honest shut in
      record {
        holds = λ going. absurd (false≢true (sym going ∙ (goes.goes_on (λ e. cc) ∙ shut)));
        leaves = λ content left. behind.leaves content (same.leaves content left);
      }
  behind-again BadRow goes delivers =
      refused BadRow (λ e. cc) (λ e. cc) goes (λ earlier held. absurd (delivers earlier held))

-- ---- the end of a file

-- a buffer that is written over its whole length
pub kept-whole : (buf items : List ℕ) (n : ℕ) → length buf ≡ n → take n (buf ++ drop (length buf) items) ≡ buf
kept-whole buf items n size =
    ap (λ k. take k (buf ++ drop (length buf) items)) (sym size) ∙ take-append_seam buf (drop (length buf) items)

pub end-of : (file bytes : List ℕ) (from len : ℕ) → len ≡ length file → from ≤ len → length bytes ≡ len - from
    → (0 < length bytes → Reads file from bytes) → IsEndOf file from bytes
end-of file bytes from len is within size read =
    let short : from ≤ length file = omega (arith, is, within) in
    let front : length (take from file) ≡ from = search (rules, places) in
    let rest : length (drop from file) ≡ length bytes = omega (arith, is, size, length-drop from file) in
    let same = same-bytes (drop from file) bytes rest
    (λ i low.
    let below : i < length bytes = omega (arith, low, rest) in
    let some : 0 < length bytes = omega (arith, below) in
    let there : slice_index (drop from file) i ≡ slice_index file (from + i) = search (rules, places) in
    there ∙ (read some).each i below) in
    (take from file, sym (take-append-drop from file) ∙ ap (λ bytes. take from file ++ bytes) same, front)
