-- The calls of a file of lines on a disk.
use Rattle.std.proofs.Common.{◌≡◌, ℕ, ◌+◌, ◌≤◌, Bool, true, false, List, ◌++◌, length, take, Result, Ok, Err, length-append, refl, sym, ap, ◌∙◌, subst, arith, rules, inr}
use Rattle.std.specs.Bool.{IsTrue}
use Rattle.std.specs.Result.{IsErr, is_ok}
use Rattle.std.proofs.lemmas.Bool.{false≢true}
use Rattle.std.proofs.lemmas.List.{places}
use Rattle.sqlite_disk.specs.Disk.{Cut, Holds, Only, Torn}
use Rattle.desk_record.specs.DiskLines.{EndsWith, standing_of}
use Rattle.desk_record.specs.LineFile.{Puts, Takes}
use Rattle.desk_record.specs.Lines.{IsBetween}
use Rattle.desk_record.proofs.DiskLemmas.{cut-done, cut-front, held-last, torn-front}

pub not-ok : {T E : Type 0} (result : Result T E) → IsErr result → is_ok result ≡ false
not-ok (Ok answer) failed = absurd (false≢true failed)
not-ok (Err error) failed = refl

pub size-of : (file line : List ℕ) (start : ℕ) → EndsWith file start line → length file ≡ start + length line
size-of file line start ends =
    let within : start ≤ length file = ends.within in
    let front : length (take start file) ≡ start = search (rules, places) in
    ap length ends.ends ∙ length-append (take start file) line ∙ ap (λ n. n + length line) front

pub EndsWith-put : (old new line text : List ℕ) (start next : ℕ) → EndsWith old start line → next ≡ start + length line
    → Torn next (length text) old new → Holds new next text → EndsWith new next text
EndsWith-put old new line text start next ends is torn holds =
    let at : next ≡ length old = is ∙ sym (size-of old line start ends) in
    let put = held-last old new text (subst (λ n. Torn n (length text) old new) at torn) (subst (λ n. Holds new n text) at holds) in
    record {
      within = omega (arith, at, torn.no_shorter);
      ends = put ∙ ap (λ front. front ++ text)
          (sym (torn-front old new (length text) (subst (λ n. Torn n (length text) old new) at torn)) ∙ ap (λ n. take n new) (sym at));
    }

module _ (text old new line : List ℕ) (may_leave may_leave_now : List ℕ → Type 0) (was_clean is_clean was_shut : Bool) (start next : ℕ)
    (clean : IsTrue is_clean → IsTrue was_clean) (opened : was_shut ≡ false) where
  pub Puts-failed : (is_done : Bool) → is_done ≡ false → (IsTrue was_clean → EndsWith old start line) → next ≡ start + length line → Torn next (length text) old new
      → Puts text is_done (standing_of old may_leave was_clean start line was_shut) (standing_of new may_leave_now is_clean next text true)
  Puts-failed is_done not_done ends is torn = record {
    honest = clean;
    done = λ honest done. absurd (false≢true (sym not_done ∙ done));
    failed = λ honest done. record {
      shut = refl;
      leaves = λ bytes left.
          let at : next ≡ length old = is ∙ sym (size-of old line start (ends (clean honest))) in
          let front : take next new ≡ old =
          ap (λ n. take n new) at ∙ torn-front old new (length text) (subst (λ n. Torn n (length text) old new) at torn) in
          inr (opened, subst (λ file. IsBetween file (file ++ text) bytes) front left.1);
    };
    shuts = λ not_put. refl;
    shut = λ honest shut. absurd (false≢true (sym opened ∙ shut));
  }

  pub Puts-done : (IsTrue was_clean → EndsWith old start line) → next ≡ start + length line → Torn next (length text) old new
      → Holds new next text → Only new may_leave_now
      → Puts text true (standing_of old may_leave was_clean start line was_shut) (standing_of new may_leave_now is_clean next text false)
  Puts-done ends is torn holds only = record {
    honest = clean;
    done = λ honest done.
        let at : next ≡ length old = is ∙ sym (size-of old line start (ends (clean honest))) in
        let there = subst (λ n. Torn n (length text) old new) at torn in
        record {
          was_open = opened;
          is_open = refl;
          bytes = held-last old new text there (subst (λ n. Holds new n text) at holds);
          before = ap (λ n. take n new) at ∙ torn-front old new (length text) there;
          on_disk = λ bytes left. only bytes left.0;
        };
    failed = λ honest done. absurd (false≢true (sym done));
    shuts = λ done. absurd (false≢true (sym done));
    shut = λ honest shut. absurd (false≢true (sym opened ∙ shut));
  }

module _ (old new line : List ℕ) (may_leave may_leave_now : List ℕ → Type 0) (was_clean is_clean was_shut : Bool) (start : ℕ)
    (clean : IsTrue is_clean → IsTrue was_clean) (opened : was_shut ≡ false) where
  pub Takes-failed : (is_done : Bool) → is_done ≡ false → (IsTrue was_clean → EndsWith old start line) → Cut start old new
      → Takes is_done (standing_of old may_leave was_clean start line was_shut) (standing_of new may_leave_now is_clean start line true)
  Takes-failed is_done not_done ends cut = record {
    honest = clean;
    done = λ honest done. absurd (false≢true (sym not_done ∙ done));
    failed = λ honest done. record {
      shut = refl;
      leaves = λ bytes left.
          let whole = ends (clean honest) in
          let front = cut-front old new start whole.within cut in
          let between : IsBetween (take start old) (take start old ++ line) bytes =
          subst (λ file. IsBetween file (file ++ line) bytes) front left.1 in
          inr (opened, subst (λ file. IsBetween (take start old) file bytes) (sym whole.ends) between);
    };
    shuts = λ not_taken. refl;
    shut = λ honest shut. absurd (false≢true (sym opened ∙ shut));
  }

  pub Takes-done : (rest : List ℕ) → (IsTrue was_clean → EndsWith old start line) → Cut start old new → length new ≡ start
      → Only new may_leave_now
      → Takes true (standing_of old may_leave was_clean start line was_shut) (standing_of new may_leave_now is_clean start rest false)
  Takes-done rest ends cut sized only = record {
    honest = clean;
    done = λ honest done.
        let whole = ends (clean honest) in
        let is = cut-done old new start whole.within cut sized in
        record {
          was_open = opened;
          is_open = refl;
          bytes = is;
          before = cut-front old new start whole.within cut;
          on_disk = λ bytes left. only bytes left.0;
        };
    failed = λ honest done. absurd (false≢true (sym done));
    shuts = λ done. absurd (false≢true (sym done));
    shut = λ honest shut. absurd (false≢true (sym opened ∙ shut));
  }
