-- A store beside a record whose last delivery was held back.
use Rattle.std.proofs.Common.{◌≡◌, ◌∙◌, ℕ, true, false, ◌||◌, List, [], ◌∷◌, ◌++◌, Option, Some, None, is_some, option_to_list, append_assoc, append-nil, refl, sym, ap, subst, inl, inr}
use Rattle.std.proofs.lemmas.Bool.{false≢true}
use Rattle.building.specs.Building.{Building}
use Rattle.deliveries.specs.declared.delivery.Delivery.{Delivery}
use Rattle.deliveries.specs.Tables.{tables}
use Rattle.store.specs.Standing.{Content, Standing}
use Rattle.store.specs.Tables.{Tables}
use Rattle.cli_record.specs.declared.difference.Difference.{Difference}
use Rattle.cli_record.specs.Belonging.{Alike, AlikeOrTold, AreMade, Belongs, IsMatched, TellsFirst, TellsOtherwise, of_both, of_which}
use Rattle.cli_record.specs.declared.belonging.First.{First}
use Rattle.cli_record.specs.Differences.{first_place}
use Rattle.cli_record.specs.RecordRun.{Lists}
use Rattle.cli_record.specs.Replayed.{IsReplayed}

pub no_last : (before : List Delivery) (last : Delivery) → [] ≡ before ++ last ∷ [] → ⊥
no_last [] last is = cc
no_last (d ∷ before) last is = cc

pub same_before : (made before : List Delivery) (d last : Delivery) → made ++ d ∷ [] ≡ before ++ last ∷ [] → made ≡ before
same_before [] [] d last is = refl
same_before [] (x ∷ before) d last is = absurd (no_last before last (let tails : [] ≡ before ++ last ∷ [] = cc in tails))
same_before (x ∷ made) [] d last is = absurd (no_last made d (let tails : [] ≡ made ++ d ∷ [] = cc in tails))
same_before (x ∷ made) (y ∷ before) d last is =
    let heads : x ≡ y = cc in
    let tails : made ++ d ∷ [] ≡ before ++ last ∷ [] = cc in
    ap (λ z. z ∷ made) heads ∙ ap (λ l. y ∷ l) (same_before made before d last tails)

module _ (b : Building) (earlier : List Delivery) (bytes : List ℕ) (held : Tables) (made : List Delivery) where
  -- the tables are those without what is held back
  pub matched-before : (last : Option Delivery) → Lists b bytes (made ++ option_to_list last) → Alike b held (tables b (earlier ++ made))
      → IsMatched b earlier bytes held None
  matched-before None lists alike =
      (made ++ [], lists, inl (subst (λ ds. Alike b held (tables b (earlier ++ ds))) (sym (append-nil made)) alike))
  matched-before (Some last) lists alike = (made ++ last ∷ [], lists, inr (made, last, refl, alike))

  -- they are not, and nothing is held back
  pub matched-none : (difference : Difference) → Lists b bytes (made ++ []) → made ≡ []
      → AlikeOrTold (Alike b held (tables b (earlier ++ made))) held (tables b (earlier ++ made)) (Some difference)
      → IsMatched b earlier bytes held (Some difference)
  matched-none difference lists none told = (made, subst (Lists b bytes) (append-nil made) lists, (refuted, told.1))
    where
      refuted : Belongs b earlier made held → ⊥
      refuted (inl alike) = told.0 alike
      refuted (inr (before, last, is, alike)) = no_last before last (sym none ∙ is)

  -- they are not, and what was held back was made then
  pub matched-all : (last : Delivery) (found : Option Difference) → Lists b bytes (made ++ last ∷ [])
      → (Alike b held (tables b (earlier ++ made)) → ⊥)
      → AlikeOrTold (Alike b held (tables b (earlier ++ (made ++ last ∷ [])))) held (tables b (earlier ++ (made ++ last ∷ []))) found
      → IsMatched b earlier bytes held found
  matched-all last None lists unlike told = (made ++ last ∷ [], lists, inl told)
  matched-all last (Some difference) lists unlike told = (made ++ last ∷ [], lists, (refuted, told.1))
    where
      refuted : Belongs b earlier (made ++ last ∷ []) held → ⊥
      refuted (inl alike) = told.0 alike
      refuted (inr (before, latest, is, alike)) =
          unlike (subst (λ ds. Alike b held (tables b (earlier ++ ds))) (sym (same_before made before last latest is)) alike)

unlike : (AreAlike : Type 0) (held recorded : Tables) (found : Option Difference) (difference : Difference) → found ≡ Some difference
    → AlikeOrTold AreAlike held recorded found → AreAlike → ⊥
unlike AreAlike held recorded found difference some told = (subst (AlikeOrTold AreAlike held recorded) some told).0

alike-none : (AreAlike : Type 0) (held recorded : Tables) (found : Option Difference) → found ≡ None
    → AlikeOrTold AreAlike held recorded found → AreAlike
alike-none AreAlike held recorded found none told = subst (AlikeOrTold AreAlike held recorded) none told

-- nothing is found
abbrev pub IsNothing : First → Type 0
IsNothing first = (first.difference ≡ None) × (first.otherwise ≡ None)

pub nothing-found : (first : First) → is_some first.difference || is_some first.otherwise ≡ false → IsNothing first
nothing-found first none = (by first.difference first.otherwise none, by-other first.difference first.otherwise none)
  where
    by : (difference otherwise : Option Difference) → is_some difference || is_some otherwise ≡ false → difference ≡ None
    by None otherwise none = refl
    by (Some difference) otherwise none = absurd (false≢true (sym none))

    by-other : (difference otherwise : Option Difference) → is_some difference || is_some otherwise ≡ false → otherwise ≡ None
    by-other None None none = refl
    by-other None (Some otherwise) none = absurd (false≢true (sym none))
    by-other (Some difference) otherwise none = absurd (false≢true (sym none))

none-some : (difference otherwise : Option Difference) → difference ≡ None → otherwise ≡ None
    → is_some difference || is_some otherwise ≡ true → ⊥
none-some None None none nowhere some = false≢true some
none-some None (Some other) none nowhere some = absurd (let no : ⊥ = cc in no)
none-some (Some difference) otherwise none nowhere some = absurd (let no : ⊥ = cc in no)

-- something is
pub something-found : (first : First) → is_some first.difference || is_some first.otherwise ≡ true → IsNothing first → ⊥
something-found first some (none, nowhere) = none-some first.difference first.otherwise none nowhere some

are-made : (made : List Delivery) (last : Option Delivery) → AreMade (made ++ option_to_list last) made
are-made made None = inl (sym (append-nil made))
are-made made (Some delivery) = inr (delivery, refl)

with-nothing : (made : List Delivery) (last : Option Delivery) → last ≡ None → made ++ option_to_list last ≡ made
with-nothing made last none = ap (λ (l : Option Delivery). made ++ option_to_list l) none ∙ append-nil made

module _ (b : Building) (earlier : List Delivery) (bytes : List ℕ) (held : Tables) (last : Option Delivery) (replayed : Standing)
    (is : IsReplayed b earlier bytes last replayed) (before : First)
    (told : TellsFirst b held replayed.content.tables before.difference before.otherwise) where
  first-of : TellsFirst b held (tables b (earlier ++ is.made)) before.difference before.otherwise
  first-of = subst (λ (k : Content). TellsFirst b held k.tables before.difference before.otherwise) is.back.holds told

  abbrev place-in : List Delivery → Option Difference
  place-in made = first_place b held (tables b (earlier ++ made))

  -- they are alike to all but the last
  pub matched-first : before.difference ≡ None → IsMatched b earlier bytes held before.difference
  matched-first none =
      subst (IsMatched b earlier bytes held) (sym none)
      (matched-before b earlier bytes held is.made last is.lists
      (alike-none _ held (tables b (earlier ++ is.made)) before.difference none first-of.told))

  -- there is no last one
  pub matched-alone : last ≡ None → IsMatched b earlier bytes held before.difference
  matched-alone nothing = by before.difference refl
    where
      by : (found : Option Difference) → before.difference ≡ found → IsMatched b earlier bytes held before.difference
      by None found = matched-first found
      by (Some difference) found =
          subst (IsMatched b earlier bytes held) (sym found)
          (matched-none b earlier bytes held is.made difference
          (subst (λ (l : Option Delivery). Lists b bytes (is.made ++ option_to_list l)) nothing is.lists) (is.back.none nothing)
          (subst (AlikeOrTold _ held (tables b (earlier ++ is.made))) found first-of.told))

  otherwise-first : before.difference ≡ None
      → ((other : List Delivery) → AreMade (is.made ++ option_to_list last) other → Alike b held (tables b (earlier ++ other))
      → place-in other ≡ None → before.otherwise ≡ None) → TellsOtherwise b earlier bytes held before.otherwise
  otherwise-first none only = record {
    deliveries = is.made ++ option_to_list last;
    lists = is.lists;
    made = is.made;
    are_made = are-made is.made last;
    alike = alike-none _ held (tables b (earlier ++ is.made)) before.difference none first-of.told;
    first = first-of.first none;
    of_neither = only;
  }

  pub otherwise-nothing : IsNothing before → TellsOtherwise b earlier bytes held before.otherwise
  otherwise-nothing (none, nowhere) = otherwise-first none (λ other are alike place. nowhere)

  pub otherwise-alone : last ≡ None → before.difference ≡ None → TellsOtherwise b earlier bytes held before.otherwise
  otherwise-alone nothing none = otherwise-first none (λ other are alike place. elim are [
    | inl same ↦ first-of.first none ∙ ap place-in (sym (same ∙ with-nothing is.made last nothing)) ∙ place
    | inr (latest, ends) ↦
        absurd (no_last other latest (sym (is.back.none nothing) ∙ sym (with-nothing is.made last nothing) ∙ ends))
  ])

  module _ (delivery : Delivery) (there : last ≡ Some delivery) (all : First)
      (told_then : TellsFirst b held (tables b ((earlier ++ is.made) ++ delivery ∷ [])) all.difference all.otherwise) where
    all-of : TellsFirst b held (tables b (earlier ++ (is.made ++ delivery ∷ []))) all.difference all.otherwise
    all-of = subst (λ ds. TellsFirst b held (tables b ds) all.difference all.otherwise) (append_assoc earlier is.made (delivery ∷ [])) told_then

    with-last : is.made ++ option_to_list last ≡ is.made ++ delivery ∷ []
    with-last = ap (λ (l : Option Delivery). is.made ++ option_to_list l) there

    all-lists : Lists b bytes (is.made ++ delivery ∷ [])
    all-lists = subst (Lists b bytes) with-last is.lists

    all-alike : all.difference ≡ None → Alike b held (tables b (earlier ++ (is.made ++ delivery ∷ [])))
    all-alike none = alike-none _ held (tables b (earlier ++ (is.made ++ delivery ∷ []))) all.difference none all-of.told

    pub matched-both : IsMatched b earlier bytes held (of_both before all).difference
    matched-both = by all.difference before.difference refl refl
      where
        by : (then first : Option Difference) → all.difference ≡ then → before.difference ≡ first
            → IsMatched b earlier bytes held (of_which before all then first).difference
        by None first then_is first_is =
            subst (IsMatched b earlier bytes held) (sym then_is) (is.made ++ delivery ∷ [], all-lists, inl (all-alike then_is))
        by (Some difference) None then_is first_is = matched-first first_is
        by (Some difference) (Some other) then_is first_is =
            matched-all b earlier bytes held is.made delivery all.difference all-lists
            (unlike _ held (tables b (earlier ++ is.made)) before.difference other first_is first-of.told) all-of.told

    -- where something was found beside all but the last, these are not wholly what the tables have
    not-before : (IsNothing before → ⊥) → (first : Option Difference) → before.difference ≡ first
        → Alike b held (tables b (earlier ++ is.made)) → place-in is.made ≡ None → ⊥
    not-before something None first_is alike place = something (first_is, first-of.first first_is ∙ place)
    not-before something (Some other) first_is alike place =
        unlike _ held (tables b (earlier ++ is.made)) before.difference other first_is first-of.told alike

    pub otherwise-both : (IsNothing before → ⊥) → (of_both before all).difference ≡ None
        → TellsOtherwise b earlier bytes held (of_both before all).otherwise
    otherwise-both something = by all.difference before.difference refl refl
      where
        by : (then first : Option Difference) → all.difference ≡ then → before.difference ≡ first
            → (of_which before all then first).difference ≡ None
            → TellsOtherwise b earlier bytes held (of_which before all then first).otherwise
        by None first then_is first_is none = record {
          deliveries = is.made ++ delivery ∷ [];
          lists = all-lists;
          made = is.made ++ delivery ∷ [];
          are_made = inl refl;
          alike = all-alike then_is;
          first = all-of.first then_is;
          of_neither = λ other are alike place. elim are [
            | inl same ↦ all-of.first then_is ∙ ap place-in (sym same) ∙ place
            | inr (latest, ends) ↦
                let same = sym (same_before is.made other delivery latest ends) in
                absurd (not-before something first first_is (subst (λ ds. Alike b held (tables b (earlier ++ ds))) same alike)
                (ap place-in (sym same) ∙ place))
          ];
        }
        by (Some difference) None then_is first_is none = otherwise-first first_is (λ other are alike place. elim are [
          | inl same ↦
              absurd (unlike _ held (tables b (earlier ++ (is.made ++ delivery ∷ []))) all.difference difference then_is all-of.told
              (subst (λ ds. Alike b held (tables b (earlier ++ ds))) (same ∙ with-last) alike))
          | inr (latest, ends) ↦
              first-of.first first_is ∙ ap place-in (same_before is.made other delivery latest (sym with-last ∙ ends)) ∙ place
        ])
        by (Some difference) (Some other) then_is first_is none = absurd (let no : ⊥ = cc in no)
