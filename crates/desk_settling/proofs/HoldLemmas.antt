-- A calendar holds by the entries of the file, by those that the store keeps, and by items beside them.
use Rattle.std.proofs.Common.{◌≡◌, zero, suc, Bool, true, false, ◌&&◌, ◌||◌, List, [], ◌∷◌, ◌++◌}
use Rattle.std.proofs.Common.{map, Option, Some, None, Result, bytes_eq, refl, sym, ap, ap₂, ◌∙◌, arith, inl, inr}
use Rattle.std.specs.Bool.{IsTrue}
use Rattle.std.specs.List.{All, Contains, cons_option, list_any}
use Rattle.std.specs.Option.{option_map_or}
use Rattle.std.specs.Result.{result_ok}
use Rattle.std.proofs.lemmas.Bool.{cases_Bool, false≢true}
use Rattle.std.proofs.lemmas.List.Elements.{All-head, All-tail}
use Rattle.std.proofs.lemmas.List.Folds.{list_any-append}
use Rattle.std.proofs.lemmas.Slice.Eq.{bytes_eq-Decides}
use Rattle.dates.specs.declared.entry.Entry.{Entry}
use Rattle.dates.specs.declared.entry_fault.EntryFault.{EntryFault}
use Rattle.dates.specs.Entry.{IsEntry, holds_on, reading, spelling}
use Rattle.dates.proofs.SpelledReads.{reading-text}
use Rattle.jiff_core.specs.declared.civil.date.Date.{Date}
use Rattle.sched.specs.Calendar.{calendar_holds}
use Rattle.building.specs.declared.named_calendar.NamedCalendar.{NamedCalendar}
use Rattle.store.specs.declared.change.ImportedEntry.{ImportedEntry}
use Rattle.store.specs.Listed.{AreTexts}
use Rattle.points.specs.Texts.{Text}
use Rattle.desk_settling.specs.Calendars.{Tells, entries_of, texts_for, with_items, with_texts}

-- ---- members of a list

pub both_ways : (a b : Bool) → (a ≡ true → b ≡ true) → (b ≡ true → a ≡ true) → a ≡ b
both_ways true b f g = sym (f refl)
both_ways false true f g = g refl
both_ways false false f g = refl

pub or-right : (a b : Bool) → b ≡ true → (a || b) ≡ true
or-right true b e = refl
or-right false b e = e

pub equal_texts : (x y : Text) → bytes_eq x y ≡ true → x ≡ y
equal_texts x y e = (bytes_eq-Decides x y).0 e

pub same_text : (x y : Text) → x ≡ y → bytes_eq x y ≡ true
same_text x y e = (bytes_eq-Decides x y).1 e

any_at : (g : Text → Bool) (x : Text) (ys : List Text) → list_any (bytes_eq x) ys ≡ true → g x ≡ true → list_any g ys ≡ true
any_at g x [] found holds = absurd (false≢true found)
any_at g x (y ∷ ys) found holds = elim (cases_Bool (bytes_eq x y)) [
  | inl same ↦ ap (λ b. b || list_any g ys) (ap g (sym (equal_texts x y same)) ∙ holds)
  | inr apart ↦ or-right (g y) (list_any g ys) (any_at g x ys (ap (λ b. b || list_any (bytes_eq x) ys) (sym apart) ∙ found) holds)
]

any_among : (g : Text → Bool) (xs ys : List Text)
    → ((text : Text) → list_any (bytes_eq text) xs ≡ true → list_any (bytes_eq text) ys ≡ true)
    → list_any g xs ≡ true → list_any g ys ≡ true
any_among g [] ys among holds = absurd (false≢true holds)
any_among g (x ∷ xs) ys among holds = elim (cases_Bool (g x)) [
  | inl here ↦ any_at g x ys (among x (ap (λ b. b || list_any (bytes_eq x) xs) (same_text x x refl))) here
  | inr apart ↦ any_among g xs ys (λ text member. among text (or-right (bytes_eq text x) (list_any (bytes_eq text) xs) member))
      (ap (λ b. b || list_any g xs) (sym apart) ∙ holds)
]

same_any : (g : Text → Bool) (xs ys : List Text) → ((text : Text) → list_any (bytes_eq text) xs ≡ list_any (bytes_eq text) ys)
    → list_any g xs ≡ list_any g ys
same_any g xs ys same = both_ways (list_any g xs) (list_any g ys)
    (any_among g xs ys (λ text member. sym (same text) ∙ member)) (any_among g ys xs (λ text member. same text ∙ member))

pub contained-any : (text : Text) (texts : List Text) → Contains texts text → list_any (bytes_eq text) texts ≡ true
contained-any text [] (k, below, at) = absurd (omega (arith, below))
contained-any text (first ∷ texts) (zero, below, at) = ap (λ b. b || list_any (bytes_eq text) texts) (same_text text first (sym at))
contained-any text (first ∷ texts) (suc k, below, at) =
    or-right (bytes_eq text first) (list_any (bytes_eq text) texts) (contained-any text texts (k, omega (arith, below), at))

pub any-contained : (text : Text) (texts : List Text) → list_any (bytes_eq text) texts ≡ true → Contains texts text
any-contained text [] found = absurd (false≢true found)
any-contained text (first ∷ texts) found = elim (cases_Bool (bytes_eq text first)) [
  | inl same ↦ (zero, omega arith, sym (equal_texts text first same))
  | inr apart ↦
      let rest = any-contained text texts (ap (λ b. b || list_any (bytes_eq text) texts) (sym apart) ∙ found) in
      (suc rest.0, omega (arith, rest.1), rest.2)
]

-- ---- entries by their texts

-- a text reads as an entry that holds on a day
abbrev read_holds : Date → Text → Bool
read_holds day text = option_map_or (λ (entry : Entry). holds_on entry day) (result_ok (reading text)) false

spelled_holds : (day : Date) (entry : Entry) → IsEntry entry → read_holds day (spelling entry) ≡ holds_on entry day
spelled_holds day entry is =
    ap (λ (read : Result Entry EntryFault). option_map_or (λ (e : Entry). holds_on e day) (result_ok read) false) (reading-text entry is)

cons-any : (day : Date) (read : Option Entry) (entries : List Entry)
    → list_any (λ (entry : Entry). holds_on entry day) (cons_option read entries)
    ≡ (option_map_or (λ (entry : Entry). holds_on entry day) read false || list_any (λ (entry : Entry). holds_on entry day) entries)
cons-any day None entries = refl
cons-any day (Some entry) entries = refl

entries_of-any : (day : Date) (texts : List Text)
    → list_any (λ entry. holds_on entry day) (entries_of texts) ≡ list_any (read_holds day) texts
entries_of-any day [] = refl
entries_of-any day (text ∷ texts) =
    cons-any day (result_ok (reading text)) (entries_of texts) ∙ ap (λ b. read_holds day text || b) (entries_of-any day texts)

kept-any : (day : Date) (kept : List Entry) → All IsEntry kept
    → list_any (λ entry. holds_on entry day) kept ≡ list_any (read_holds day) (map spelling kept)
kept-any day [] all = refl
kept-any day (entry ∷ kept) all =
    ap₂ (λ a b. a || b) (sym (spelled_holds day entry (All-head IsEntry entry kept all)))
    (kept-any day kept (All-tail IsEntry entry kept all))

-- what the store keeps for a calendar holds as what is imported
kept-holds : (table : Text → Text → Bool) (imported : Text → List Text) (calendar : Text) (kept : List Entry) (day : Date)
    → AreTexts (λ text. IsTrue (table calendar text)) (map spelling kept) → All IsEntry kept → Tells table imported
    → list_any (λ entry. holds_on entry day) kept ≡ list_any (read_holds day) (imported calendar)
kept-holds table imported calendar kept day are all tells =
    kept-any day kept all ∙ same_any (read_holds day) (map spelling kept) (imported calendar) (λ text. both_ways _ _
    (λ member. sym (tells calendar text) ∙ (are.each text).0 (any-contained text (map spelling kept) member))
    (λ member. contained-any text (map spelling kept) ((are.each text).1 (tells calendar text ∙ member))))

items-hold : (calendar : Text) (day : Date) (items : List ImportedEntry) → All (λ (item : ImportedEntry). IsEntry item.entry) items
    → list_any (λ item. bytes_eq item.calendar calendar && holds_on item.entry day) items
    ≡ list_any (read_holds day) (texts_for calendar items)
items-hold calendar day [] all = refl
items-hold calendar day (item ∷ items) all = elim (cases_Bool (bytes_eq item.calendar calendar)) [
  | inl here ↦ rw here (ap₂ (λ a b. a || b) (sym (spelled_holds day item.entry first)) (items-hold calendar day items rest))
  | inr apart ↦ rw apart (items-hold calendar day items rest)
]
  where
    has_entry : ImportedEntry → Type 0
    has_entry item = IsEntry item.entry

    first : IsEntry item.entry
    first = All-head has_entry item items all

    rest : All (λ (item : ImportedEntry). IsEntry item.entry) items
    rest = All-tail has_entry item items all

-- a calendar holds by the file, by what is kept, or by items
pub holds-parts : (table : Text → Text → Bool) (imported : Text → List Text) (calendar : NamedCalendar) (kept : List Entry)
    (items : List ImportedEntry) (day : Date)
    → AreTexts (λ text. IsTrue (table calendar.name text)) (map spelling kept) → All IsEntry kept
    → All (λ (item : ImportedEntry). IsEntry item.entry) items
    → Tells table imported
    → (calendar_holds calendar.calendar day || (list_any (λ entry. holds_on entry day) kept
    || list_any (λ item. bytes_eq item.calendar calendar.name && holds_on item.entry day) items))
    ≡ calendar_holds (with_texts (with_items imported items) calendar) day
holds-parts table imported calendar kept items day are all all_items tells =
    let file = calendar.calendar.entries in
    let texts = imported calendar.name in
    let more = texts_for calendar.name items in
    ap₂ (λ a b. list_any (λ entry. holds_on entry day) file || (a || b))
    (kept-holds table imported calendar.name kept day are all tells) (items-hold calendar.name day items all_items)
    ∙ (ap (λ b. list_any (λ entry. holds_on entry day) file || b)
    (sym (list_any-append (read_holds day) texts more) ∙ sym (entries_of-any day (texts ++ more)))
    ∙ sym (list_any-append (λ entry. holds_on entry day) file (entries_of (texts ++ more))))
