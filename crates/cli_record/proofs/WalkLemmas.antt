-- What is found one after the other.
use Rattle.std.proofs.Common.{◌≡◌, ◌∙◌, ◌≤◌, ◌<◌, ◌+◌, ◌-◌, ℕ, Bool, List, [], ◌∷◌, ◌++◌, length, map, take, get_or, refl, sym, ap, subst, append_assoc, arith, ◌||◌}
use Rattle.std.proofs.lemmas.List.{flat_map_more, map-id}
use Rattle.std.proofs.lemmas.List.FromFn.{map-range_with_len_more}
use Rattle.std.specs.List.{AllZip, flat_map, list_any, range_with_len}
use Rattle.building.specs.declared.named_calendar.NamedCalendar.{NamedCalendar}
use Rattle.store.specs.Tables.{Tables}
use Rattle.desk_adopt.proofs.ReadLemmas.{taken-more, zip-more}
use Rattle.cli_record.specs.declared.difference.Difference.{Difference}
use Rattle.cli_record.specs.Differences.{OfCalendar, OfCalendars}

pub list_any_map : {A B : Type 0} (test : B → Bool) (f : A → B) (xs : List A) → list_any test (map f xs) ≡ list_any (λ x. test (f x)) xs
list_any_map test f [] = refl
list_any_map test f (x ∷ xs) = ap (λ b. test (f x) || b) (list_any_map test f xs)

-- with the part of one more
pub walk-more : {X A : Type 0} (part : X → List A) (old before after : List A) (xs : List X) (i : ℕ) (x : X) → i < length xs
    → x ≡ get_or xs i x → before ≡ old ++ flat_map part (take i xs) → after ≡ before ++ part x
    → after ≡ old ++ flat_map part (take (i + 1) xs)
walk-more part old before after xs i x below is so_far more =
    more
    ∙ ap (λ l. l ++ part x) so_far
    ∙ flat_map_more part old (take i xs) x
    ∙ ap (λ l. old ++ flat_map part l) (sym (taken-more xs i x below is))

range-more : (a n j : ℕ) → a + n ≡ j → range_with_len a (n + 1) ≡ range_with_len a n ++ j ∷ []
range-more a n j e =
    sym (map-id (range_with_len a (n + 1))) ∙ map-range_with_len_more (λ x. x) a n j e ∙ ap (λ l. l ++ j ∷ []) (map-id (range_with_len a n))

-- with the part of one number more
pub number-more : {A : Type 0} (part : ℕ → List A) (old before after : List A) (from number : ℕ) → from ≤ number
    → before ≡ old ++ flat_map part (range_with_len from (number - from)) → after ≡ before ++ part number
    → after ≡ old ++ flat_map part (range_with_len from (number + 1 - from))
number-more part old before after from number least so_far more =
    let next : number + 1 - from ≡ number - from + 1 = omega arith in
    more
    ∙ ap (λ l. l ++ part number) so_far
    ∙ flat_map_more part old (range_with_len from (number - from)) number
    ∙ ap (λ l. old ++ flat_map part l) (sym (range-more from (number - from) number (omega arith)))
    ∙ ap (λ n. old ++ flat_map part (range_with_len from n)) (sym next)

-- with the part of one calendar more
pub calendar-more : (held recorded : Tables) (calendars : List NamedCalendar) (i : ℕ) (calendar : NamedCalendar)
    (old before after part more : List Difference) → i < length calendars → calendar ≡ get_or calendars i calendar
    → before ≡ old ++ part → OfCalendars held recorded (take i calendars) part → after ≡ before ++ more
    → OfCalendar held recorded calendar more
    → (all : List Difference) × (after ≡ old ++ all) × OfCalendars held recorded (take (i + 1) calendars) all
calendar-more held recorded calendars i calendar old before after part more below is so_far parts added here = (
  part ++ more,
  added ∙ ap (λ l. l ++ more) so_far ∙ append_assoc old part more,
  (
    parts.0 ++ more ∷ [],
    subst (λ those. AllZip (OfCalendar held recorded) those (parts.0 ++ more ∷ [])) (sym (taken-more calendars i calendar below is))
        (zip-more (OfCalendar held recorded) (take i calendars) parts.0 calendar more parts.1 here),
    ap (λ l. l ++ more) parts.2 ∙ flat_map_more (λ it. it) [] parts.0 more,
  ),
)
