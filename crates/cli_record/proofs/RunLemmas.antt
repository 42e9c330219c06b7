-- What is found where tables are compared with those of deliveries.
use Rattle.std.proofs.Common.{◌≡◌, ◌∙◌, ◌==◌, Bool, true, false, List, [], ◌∷◌, ◌++◌, append-nil, append_assoc, ap, arith, inl, inr, length, refl, subst, sym}
use Rattle.std.proofs.lemmas.Bool.{false≢true}
use Rattle.std.proofs.lemmas.Bool.Decides.{Decides-eqb}
use Rattle.std.specs.Prelude.{ℕ}
use Rattle.std.specs.List.{flat_map}
use Rattle.building.specs.Building.{Building}
use Rattle.deliveries.specs.declared.delivery.Delivery.{Delivery}
use Rattle.deliveries.specs.Tables.{tables}
use Rattle.cli_common.specs.declared.status.Status.TheVariants.{Done, Fault}
use Rattle.store.specs.Standing.{Content, sound}
use Rattle.store.specs.Tables.{Tables}
use Rattle.cli_record.proofs.AgreeLemmas.{none-where-agree}
use Rattle.cli_record.proofs.MatchLemmas.{no_last, same_before}
use Rattle.cli_record.specs.declared.difference.Difference.{Difference}
use Rattle.cli_record.specs.Differences.{AreDifferences}
use Rattle.cli_record.specs.RecordRun.{AreFound, Differ, IsCompared}
use Rattle.cli_record.specs.RecordText.{difference_line, unmade_line, whole_line}

none-of : (found : List Difference) → (length found == 0) ≡ true → found ≡ []
none-of [] none = refl
none-of (difference ∷ found) none =
    let no : length (difference ∷ found) ≡ 0 = (Decides-eqb (length (difference ∷ found)) 0).0 none in absurd (omega (arith, no))

pub no-deliveries : (deliveries : List Delivery) → length deliveries ≡ 0 → deliveries ≡ []
no-deliveries [] none = refl
no-deliveries (delivery ∷ deliveries) none = absurd (let no : length (delivery ∷ deliveries) ≡ 0 = none in omega (arith, no))

some-of : (found : List Difference) → (length found == 0) ≡ false → found ≡ [] → ⊥
some-of found some none = false≢true (sym some ∙ ap (λ (ds : List Difference). length ds == 0) none)

-- differences from what a store holds, which are those from the tables of deliveries
pub differ-held : (b : Building) (held : Tables) (deliveries : List Delivery) (content : Content) (found : List Difference)
    → content ≡ sound (tables b deliveries) → AreDifferences b held content.tables found
    → AreDifferences b held (tables b deliveries) found
differ-held b held deliveries content found is = subst (λ (k : Content). AreDifferences b held k.tables found) is

module _ (b : Building) (earlier : List Delivery) (held : Tables) where
  -- differences that are found are none, where none are
  none-found : (deliveries : List Delivery) (found : List Difference) → Differ b earlier deliveries held []
      → Differ b earlier deliveries held found → found ≡ []
  none-found deliveries found level differ =
      (none-where-agree b held (tables b (earlier ++ deliveries)) found differ).1
      ((none-where-agree b held (tables b (earlier ++ deliveries)) [] level).0 refl)

  some-found : (deliveries : List Delivery) (found : List Difference) → (length found == 0) ≡ false
      → Differ b earlier deliveries held found → Differ b earlier deliveries held [] → ⊥
  some-found deliveries found some differ level = some-of found some (none-found deliveries found level differ)

  -- no delivery
  pub found-none : (found : List Difference) → AreDifferences b held (tables b earlier) found → AreFound b earlier [] held found false
  found-none found differ = record {
    differ = subst (λ ds. AreDifferences b held (tables b ds) found) (sym (append-nil earlier)) differ;
    lacks = λ e. absurd (false≢true e);
    has = λ e (before, last, is, level). no_last before last is;
  }

  -- all but the last, and all
  pub found-last : (before : List Delivery) (last : Delivery) (unmade found : List Difference) (lacks_last : Bool)
      → Differ b earlier before held unmade → AreDifferences b held (tables b ((earlier ++ before) ++ last ∷ [])) found
      → lacks_last ≡ (length unmade == 0) → AreFound b earlier (before ++ last ∷ []) held found lacks_last
  found-last before last unmade found lacks_last differ-before differ lacks = record {
    differ = subst (λ ds. AreDifferences b held (tables b ds) found) (append_assoc earlier before (last ∷ [])) differ;
    lacks = λ e. (before, last, refl, subst (Differ b earlier before held) (none-of unmade (sym lacks ∙ e)) differ-before);
    has = λ e (others, latest, is, level).
        some-found before unmade (sym lacks ∙ e) differ-before
        (subst (λ ds. Differ b earlier ds held []) (sym (same_before before others last latest is)) level);
  }

  -- ---- what is said then

  pub says-whole : (deliveries : List Delivery) (found : List Difference) (lacks_last : Bool) (count : ℕ) (text : List ℕ)
      → length deliveries ≡ count → (length found == 0) ≡ true → text ≡ whole_line count
      → AreFound b earlier deliveries held found lacks_last → IsCompared b earlier deliveries held Done text
  says-whole deliveries found lacks_last count text counted none is are =
      inl (subst (Differ b earlier deliveries held) (none-of found none) are.differ, refl, is ∙ ap whole_line (sym counted))

  pub says-unmade : (deliveries : List Delivery) (found : List Difference) (lacks_last : Bool) (count : ℕ) (text : List ℕ)
      → length deliveries ≡ count → (length found == 0) ≡ false → lacks_last ≡ true → text ≡ unmade_line count
      → AreFound b earlier deliveries held found lacks_last → IsCompared b earlier deliveries held Done text
  says-unmade deliveries found lacks_last count text counted some lacks is are =
      inr (inl (some-found deliveries found some are.differ, are.lacks lacks, refl, is ∙ ap unmade_line (sym counted)))

  pub says-differences : (deliveries : List Delivery) (found : List Difference) (lacks_last : Bool) (text : List ℕ)
      → (length found == 0) ≡ false → lacks_last ≡ false → text ≡ flat_map difference_line found
      → AreFound b earlier deliveries held found lacks_last → IsCompared b earlier deliveries held Fault text
  says-differences deliveries found lacks_last text some has is are =
      inr (inr (some-found deliveries found some are.differ, are.has has, (found, are.differ, refl, is)))
