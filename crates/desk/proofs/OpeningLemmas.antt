-- Opening a desk over a store.
use Rattle.std.proofs.Common.{◌≡◌, ℕ, suc, ◌+◌, Bool, true, false, ◌&&◌, List, ◌∷◌, length, Option, Some, None, is_some, Result, Ok, Err, OnOk, nat_lt, cond, Bor, []}
use Rattle.std.specs.Result.{result_err}
use Rattle.std.proofs.Common.{ℤ, arith, find, position, option_copied, refl, sym, ap, ◌∙◌, subst, inl, inr}
use Rattle.std.specs.Bool.{IsTrue}
use Rattle.std.specs.List.{Contains, list_all, list_any, position_or_len}
use Rattle.std.proofs.lemmas.Bool.{cases_Bool, false≢true}
use Rattle.std.proofs.lemmas.Bool.Decides.{nat_tests}
use Rattle.std.proofs.lemmas.List.Elements.{All-contains, All-contains_itself, All-weaker}
use Rattle.std.proofs.lemmas.List.Sums.{AllPass-from_list_all, list_all-from_AllPass}
use Rattle.store.proofs.StoodLemmas.{none_any, not_true}
use Rattle.store.specs.declared.fault.StoreFault.{StoreFault}
use Rattle.store.specs.declared.fault.StoreFault.TheVariants.{Failed, Shut, BadRow}
use Rattle.store.specs.declared.names.Names.{Names}
use Rattle.store.specs.Listed.{AreNames, AreTexts, HasCalendar, HasPanel, HasPoint, HasSchedule}
use Rattle.store.specs.Asked.{Asked, Judges}
use Rattle.store.specs.Asked.Asked.{AnyName, EntriesOf, LastTick, NextOf}
use Rattle.store.specs.Standing.{Content, Reads, Standing, sound}
use Rattle.store.specs.Tables.{Tables, no_tables}
use Rattle.points.specs.Texts.{Text}
use Rattle.store.proofs.ReadLemmas.{Goes-reported, Reads-then}
use Rattle.building.specs.Building.{Building}
use Rattle.building.specs.declared.named_calendar.NamedCalendar.{NamedCalendar}
use Rattle.deliveries.specs.Delivered.{Holds}
use Rattle.deliveries.proofs.EmptyLemmas.{tables-none}
use Rattle.desk.specs.Opening.{AreKnown, HaveStood, Opens, Suits, are_known, has_calendar, has_panel, has_point, has_schedule, is_ticked}

pub is_some-find : {A : Type 0} (test : A → Bool) (xs : List A) → is_some (find test xs) ≡ list_any test xs
is_some-find test [] = refl
is_some-find test (x ∷ xs) = elim (cases_Bool (test x)) [
  | inl passes ↦ rw passes refl
  | inr fails ↦ rw fails (is_some-find test xs)
]

pub found-any : {A : Type 0} (found : Option (Bor A)) (test : A → Bool) (xs : List A) → option_copied found ≡ find test xs
    → is_some found ≡ list_any test xs
found-any found test xs is = copied found ∙ (ap is_some is ∙ is_some-find test xs)
  where
    copied : {A : Type 0} (found : Option (Bor A)) → is_some found ≡ is_some (option_copied found)
    copied None = refl
    copied (Some x) = refl

pub placed-any : {A : Type 0} (test : A → Bool) (xs : List A) → is_some (position test xs) ≡ list_any test xs
placed-any test xs = some_where (nat_lt (position_or_len test xs) (length xs)) (position_or_len test xs) ∙ within test xs
  where
    some_where : (is : Bool) (place : ℕ) → is_some (cond is (Some place) None) ≡ is
    some_where true place = refl
    some_where false place = refl

    first : (n : ℕ) → nat_lt 0 (suc n) ≡ true
    first n = grind (arith, nat_tests)

    later : (k n : ℕ) → nat_lt (1 + k) (suc n) ≡ nat_lt k n
    later k n = elim (cases_Bool (nat_lt k n)) [
      | inl less ↦ grind (arith, nat_tests)
      | inr not ↦ grind (arith, nat_tests)
    ]

    within : {A : Type 0} (test : A → Bool) (xs : List A) → nat_lt (position_or_len test xs) (length xs) ≡ list_any test xs
    within test [] = refl
    within test (x ∷ xs) = elim (cases_Bool (test x)) [
      | inl passes ↦ rw passes (first (length xs))
      | inr fails ↦ rw fails (later (position_or_len test xs) (length xs) ∙ within test xs)
    ]

-- a name that is found is one of the list's
each-known : (test : Text → Bool) (holds : Text → Type 0) (texts : List Text) → AreTexts holds texts → list_all test texts ≡ true
    → (name : Text) → holds name → IsTrue (test name)
each-known test holds texts are all name here =
    All-contains (λ x. test x ≡ true) texts name (AllPass-from_list_all test texts all) ((are.each name).1 here)

all-known : (test : Text → Bool) (holds : Text → Type 0) (texts : List Text) → AreTexts holds texts
    → ((name : Text) → holds name → IsTrue (test name)) → list_all test texts ≡ true
all-known test holds texts are known =
    list_all-from_AllPass test texts
    (All-weaker (Contains texts) (λ x. test x ≡ true) (λ x here. known x ((are.each x).0 here)) texts (All-contains_itself texts))

both : (a b : Bool) → (a && b) ≡ true → (a ≡ true) × (b ≡ true)
both true b e = (refl, e)
both false b e = absurd (false≢true e)

and : (a b : Bool) → a ≡ true → b ≡ true → (a && b) ≡ true
and a b first second = rw first second

module _ (b : Building) (tables : Tables) (names : Names) (are : AreNames tables names) where
  pub known-names : are_known b names ≡ true → AreKnown b tables
  known-names all =
      let first = both (list_all (has_panel b) names.panels.items) _ all in
      let second = both (list_all (has_point b) names.points.items) _ first.1 in
      let third = both (list_all (has_schedule b) names.schedules.items) _ second.1 in
      record {
        panels = each-known (has_panel b) (HasPanel tables) names.panels.items are.panels first.0;
        points = each-known (has_point b) (HasPoint tables) names.points.items are.points second.0;
        schedules = each-known (has_schedule b) (HasSchedule tables) names.schedules.items are.schedules third.0;
        calendars = each-known (has_calendar b) (HasCalendar tables) names.calendars.items are.calendars third.1;
      }

  pub names-known : AreKnown b tables → are_known b names ≡ true
  names-known known =
      and _ _ (all-known (has_panel b) (HasPanel tables) names.panels.items are.panels known.panels)
      (and _ _ (all-known (has_point b) (HasPoint tables) names.points.items are.points known.points)
      (and _ _ (all-known (has_schedule b) (HasSchedule tables) names.schedules.items are.schedules known.schedules)
      (all-known (has_calendar b) (HasCalendar tables) names.calendars.items are.calendars known.calendars)))

some_none : (fault : StoreFault) → Some fault ≡ None → ⊥
some_none fault e = cc

not_shut : Some BadRow ≡ Some Shut → ⊥
not_shut e = cc

not_failed : Some BadRow ≡ Some Failed → ⊥
not_failed e = cc

-- tables that do not suit the building
Opens-unsuited : (b : Building) (old new : Standing) → Reads None old new → (new.is_honest → Suits b old.content.tables → ⊥)
    → Opens b (Some BadRow) old new
Opens-unsuited b old new reads unsuited = record {
  goes = Goes-reported BadRow old new reads.goes not_shut not_failed;
  kept = λ honest reported. reads.kept honest (λ e. cc);
  left = reads.left;
  known = λ honest none. absurd (some_none BadRow none);
  rests = λ honest none. absurd (some_none BadRow none);
  bad_row = λ honest reported. inl (unsuited honest);
}

-- a name that the building lacks
pub Opens-unknown : (b : Building) (old new : Standing) (names : Names) → Reads None old new
    → (new.is_honest → AreNames old.content.tables names)
    → are_known b names ≡ false → Opens b (Some BadRow) old new
Opens-unknown b old new names reads are unknown =
    Opens-unsuited b old new reads (λ honest suits. false≢true
    (sym unknown ∙ names-known b old.content.tables names (are honest) suits.names))

pub on_ok : {A E P : Type 0} (r : Result A E) → OnOk r P → result_err r ≡ None → P
on_ok (Ok value) holds none = holds
on_ok (Err e) holds none = absurd (let n : ⊥ = cc in n)

-- the next numbers are read behind the entries
pub nexts-stood : {A E : Type 0} (r : Result A E) (calendars : List NamedCalendar) (panels : List Text) (first second : Standing)
    → second.cannot_stand ≡ first.cannot_stand
    → list_any (λ calendar. first.cannot_stand (EntriesOf calendar.name)) calendars ≡ false
    → OnOk r (list_any (λ panel. second.cannot_stand (NextOf panel)) panels ≡ false) → OnOk r (HaveStood calendars panels first)
nexts-stood (Ok value) calendars panels first second same entries nexts =
    record { entries = entries; nexts = subst (λ f. list_any (λ panel. f (NextOf panel)) panels ≡ false) same nexts }
nexts-stood (Err e) calendars panels first second same entries nexts = tt

-- The names are the building's, and the last tick was read.
module _ (b : Building) (first second third : Standing) (last : Option ℤ) (before : Reads None first second)
    (reads : Reads None second third)
    (value : third.is_honest → last ≡ second.content.tables.last_tick) where
  last-first : third.is_honest → last ≡ first.content.tables.last_tick
  last-first honest = value honest ∙ ap (λ (c : Content). c.tables.last_tick) (before.kept (reads.goes.honest honest) (λ e. cc))

  -- it was at no moment
  pub Opens-unticked : is_ticked b last ≡ false → Opens b (Some BadRow) first third
  Opens-unticked unticked =
      Opens-unsuited b first third (Reads-then None first second third before reads)
      (λ honest suits. false≢true (sym unticked ∙ (ap (is_ticked b) (last-first honest) ∙ suits.last)))

  -- what is read behind it
  pub Opens-read : (fault : Option StoreFault) (fourth : Standing) (names : Names)
      → (second.is_honest → AreNames first.content.tables names) → are_known b names ≡ true
      → is_ticked b last ≡ true → Reads fault third fourth
      → (second.is_honest → IsTrue (first.cannot_stand AnyName) → ⊥)
      → (third.is_honest → Judges (IsTrue (second.cannot_stand LastTick)) None)
      → (fourth.is_honest → fault ≡ None → HaveStood b.calendars names.panels.items third) → Opens b fault first fourth
  Opens-read fault fourth names are known ticked after named judged stood =
      let whole = Reads-then fault first third fourth (Reads-then None first second third before reads) after in
      record {
        goes = whole.goes;
        kept = whole.kept;
        left = whole.left;
        known = λ honest none.
            let honest_third = after.goes.honest honest in
            record {
              names = known-names b first.content.tables names (are (reads.goes.honest honest_third)) known;
              last = sym (ap (is_ticked b) (last-first honest_third)) ∙ ticked;
            };
        rests = λ honest none.
            let honest_third = after.goes.honest honest in
            let honest_second = reads.goes.honest honest_third in
            let same_second : second.cannot_stand ≡ first.cannot_stand = before.rows honest_second (λ e. cc) in
            let same_third : third.cannot_stand ≡ first.cannot_stand = reads.rows honest_third (λ e. cc) ∙ same_second in
            let rows = stood honest none in
            record {
              names = not_true (first.cannot_stand AnyName) (named honest_second);
              last = ap (λ (f : Asked → Bool). f LastTick) (sym same_second)
                  ∙ not_true (second.cannot_stand LastTick) ((judged honest_third).stood refl);
              entries = subst (λ f. list_any (λ calendar. f (EntriesOf calendar.name)) b.calendars ≡ false) same_third rows.entries;
              nexts = λ panel has. none_any (λ name. first.cannot_stand (NextOf name)) names.panels.items
                  (subst (λ f. list_any (λ name. f (NextOf name)) names.panels.items ≡ false) same_third rows.nexts)
                  panel (((are honest_second).panels.each panel).1 has);
            };
        bad_row = λ honest reported. inr (whole.bad_row honest reported);
      }

-- over empty tables a desk begins with those of no deliveries
pub Opens-empty : (b : Building) (old new : Standing) → Opens b None old new → new.is_honest → old.content ≡ sound no_tables
    → Holds b [] new
Opens-empty b old new opens honest empty = opens.kept honest (λ e. cc) ∙ (empty ∙ ap sound (tables-none b))
