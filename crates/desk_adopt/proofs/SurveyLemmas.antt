-- What a survey tells, from what was read one after the other.
use Rattle.std.proofs.Common.{◌≡◌, ◌∙◌, ◌+◌, ◌++◌, ◌∷◌, ℕ, ℤ, List, Option, ap, append_assoc, arith, length, subst, sym, []}
use Rattle.std.proofs.lemmas.List.Sums.{sum_by-append}
use Rattle.std.specs.List.{sum_by}
use Rattle.building.specs.Building.{Building}
use Rattle.dates.specs.declared.entry.Entry.{Entry}
use Rattle.store.specs.declared.names.Names.{Names}
use Rattle.store.specs.Listed.{AreEntries, AreNames}
use Rattle.store.specs.Standing.{Content}
use Rattle.store.specs.Tables.{Tables}
use Rattle.points.specs.Texts.{Text}
use Rattle.desk_adopt.specs.declared.finding.Finding.{Finding}
use Rattle.desk_adopt.specs.declared.holdings.Holdings.{Holdings}
use Rattle.desk_adopt.specs.Findings.{findings_of}
use Rattle.desk_adopt.specs.Surveyed.{AreCounted, AreHeld, IsSurvey}
use Rattle.desk_adopt.proofs.ReadLemmas.{zip-more}

-- five parts, one added after the other
pub joined-parts : {A : Type 0} (a b c d e none first second third fourth all : List A) → none ≡ [] → first ≡ none ++ a
    → second ≡ first ++ b → third ≡ second ++ c → fourth ≡ third ++ d → all ≡ fourth ++ e → all ≡ a ++ (b ++ (c ++ (d ++ e)))
joined-parts a b c d e none first second third fourth all is_none is_a is_b is_c is_d is_e =
    is_e
    ∙ ap (λ l. l ++ e) (is_d ∙ ap (λ l. l ++ d) (is_c ∙ ap (λ l. l ++ c) (is_b ∙ ap (λ l. l ++ b) (is_a ∙ ap (λ l. l ++ a) is_none))))
    ∙ append_assoc ((a ++ b) ++ c) d e
    ∙ append_assoc (a ++ b) c (d ++ e)
    ∙ append_assoc a b (c ++ (d ++ e))

-- the entries of one calendar more
pub counted-more : (tables : Tables) (calendars : List Text) (count : ℕ) (calendar : Text) (entries : List Entry)
    → AreCounted tables calendars count
    → AreEntries tables calendar entries → AreCounted tables (calendars ++ calendar ∷ []) (count + length entries)
counted-more tables calendars count calendar entries before here = record {
  lists = before.lists ++ entries ∷ [];
  each = zip-more (AreEntries tables) calendars before.lists calendar entries before.each here;
  counted = ap (λ n. n + length entries) before.counted ∙ sym (sum_by-append length before.lists (entries ∷ []) ∙ last);
}
  where
    last : sum_by length before.lists + sum_by length (entries ∷ []) ≡ sum_by length before.lists + length entries
    last = omega arith

-- the tables stay the same while they are read
pub IsSurvey-read : (b : Building) (first second third fourth : Content) (names : Names) (last : Option ℤ) (holdings : Holdings)
    (findings : List Finding)
    → second ≡ first → third ≡ first → fourth ≡ first → AreNames first.tables names → last ≡ second.tables.last_tick
    → AreHeld third.tables names holdings → findings ≡ findings_of b fourth.tables.places last names
    → IsSurvey b first.tables findings holdings
IsSurvey-read b first second third fourth names last holdings findings same_second same_third same_fourth are is held found = record {
  names = names;
  are_names = are;
  found = found
      ∙ ap (λ (c : Content). findings_of b c.tables.places last names) same_fourth
      ∙ ap (λ l. findings_of b first.tables.places l names) (is ∙ ap (λ (c : Content). c.tables.last_tick) same_second);
  held = subst (λ (c : Content). AreHeld c.tables names holdings) same_third held;
}
