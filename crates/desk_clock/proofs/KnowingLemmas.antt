-- What the calendars of an import know, after each step.
use Rattle.std.proofs.Common.{◌≡◌, ◌&&◌, ◌||◌, ◌++◌, Bool, true, false, not, List, [], ◌∷◌, map, cond, Option, Some, is_some, ℕ, zero, suc, slice_get, refl, sym, ap, ap₂, ◌∙◌, inl, inr}
use Rattle.std.specs.Cmp.Lexicographic.{nat_list_eq_equiv}
use Rattle.std.specs.List.{list_any}
use Rattle.std.specs.Str.{bytes_eq}
use Rattle.std.proofs.lemmas.Bool.{and_left, and_parts, cases_Bool, false≢true, or_from, or_left, or_parts, or_right}
use Rattle.std.proofs.lemmas.List.Folds.{list_any-append}
use Rattle.std.proofs.lemmas.Slice.Eq.{bytes_eq-Decides}
use Rattle.building.specs.Building.{Building}
use Rattle.building.specs.Roster.{are_distinct}
use Rattle.points.specs.NameIndex.{is_among}
use Rattle.building.specs.declared.named_calendar.NamedCalendar.{NamedCalendar}
use Rattle.desk_clock.specs.Knowing.{has_in_file, in_file}
use Rattle.desk_clock.proofs.AddedLemmas.{texts_for-append}
use Rattle.dates.specs.declared.entry.Entry.{Entry}
use Rattle.dates.specs.Entry.{spelling}
use Rattle.deliveries.specs.Machine.{added_to, is_known}
use Rattle.desk_settling.specs.Calendars.{Tells, texts_for, with_items}
use Rattle.store.specs.Change.{with_imported}
use Rattle.store.specs.declared.change.ImportedEntry.{ImportedEntry}
use Rattle.points.specs.Texts.{Text}

not_true : (b : Bool) → not b ≡ true → b ≡ false
not_true true is = sym is
not_true false is = refl

read_more : (here was by_entries by_table items : Bool) → (here ≡ true → by_entries ≡ by_table)
    → ((here && by_entries) || ((was && by_table) || items)) ≡ (((here || was) && by_table) || items)
read_more false was by_entries by_table items same = refl
read_more true was by_entries by_table items same = ap (λ b. b || ((was && by_table) || items)) (same refl) ∙ twice was by_table
  where
    twice : (w t : Bool) → (t || ((w && t) || items)) ≡ (t || items)
    twice w true = refl
    twice true false = refl
    twice false false = refl

-- a name is put among those that were read
pub read-one : {A : Type 0} (b : Bool) (v : A) (was now : Option A) → now ≡ cond b (Some v) was → is_some now ≡ (b || is_some was)
read-one true v was now is = ap is_some is
read-one false v was now is = ap is_some is

-- a calendar's entries are read, of the file and imported
pub read-knows : (table : Text → Text → Bool) (items : List ImportedEntry) (name : Text) (by_entries : Text → Bool)
    (old_texts new_texts : Text → Text → Bool) (old_read new_read : Text → Bool)
    → ((q : Text) → new_read q ≡ (bytes_eq name q || old_read q)) → ((text : Text) → by_entries text ≡ table name text)
    → ((q text : Text) → new_texts q text ≡ ((bytes_eq name q && by_entries text) || old_texts q text))
    → ((q text : Text) → old_texts q text ≡ ((old_read q && table q text) || list_any (bytes_eq text) (texts_for q items)))
    → (q text : Text) → new_texts q text ≡ ((new_read q && table q text) || list_any (bytes_eq text) (texts_for q items))
read-knows table items name by_entries old_texts new_texts old_read new_read reads are more knew q text =
    let added = list_any (bytes_eq text) (texts_for q items) in
    more q text ∙ ap (λ b. (bytes_eq name q && by_entries text) || b) (knew q text)
    ∙ read_more (bytes_eq name q) (old_read q) (by_entries text) (table q text) added
    (λ here. are text ∙ ap (λ n. table n text) ((bytes_eq-Decides name q).0 here))
    ∙ ap (λ r. (r && table q text) || added) (sym (reads q))

-- what is kept in two steps
pub kept-both : (here file imported old : Bool) → ((here && file) || ((here && imported) || old)) ≡ ((here && (file || imported)) || old)
kept-both true true imported old = refl
kept-both true false imported old = refl
kept-both false file imported old = refl

one-item : (q text : Text) (item : ImportedEntry)
    → list_any (bytes_eq text) (texts_for q (item ∷ [])) ≡ (bytes_eq item.calendar q && bytes_eq (spelling item.entry) text)
one-item q text item = elim (cases_Bool (bytes_eq item.calendar q)) [
  | inl here ↦ rw here (or_none (bytes_eq text (spelling item.entry)) ∙ nat_list_eq_equiv.symm text (spelling item.entry))
  | inr apart ↦ rw apart refl
]
  where
    or_none : (b : Bool) → (b || false) ≡ b
    or_none true = refl
    or_none false = refl

turn : (one reported items : Bool) → (one || (reported || items)) ≡ (reported || (items || one))
turn true true items = refl
turn true false true = refl
turn true false false = refl
turn false true items = refl
turn false false true = refl
turn false false false = refl

-- one item more is added
pub add-knows : (table : Text → Text → Bool) (items : List ImportedEntry) (item : ImportedEntry)
    (old_texts new_texts : Text → Text → Bool) (read : Text → Bool)
    → ((q text : Text) → new_texts q text ≡ with_imported item old_texts q text)
    → ((q text : Text) → old_texts q text ≡ ((read q && table q text) || list_any (bytes_eq text) (texts_for q items)))
    → (q text : Text) → new_texts q text ≡ ((read q && table q text) || list_any (bytes_eq text) (texts_for q (items ++ item ∷ [])))
add-knows table items item old_texts new_texts read more knew q text =
    let one = bytes_eq item.calendar q && bytes_eq (spelling item.entry) text in
    let reported = read q && table q text in
    let so_far = list_any (bytes_eq text) (texts_for q items) in
    more q text ∙ ap (λ b. one || b) (knew q text) ∙ turn one reported so_far
    ∙ ap (λ b. reported || (so_far || b)) (sym (one-item q text item))
    ∙ ap (λ b. reported || b) (sym (list_any-append (bytes_eq text) (texts_for q items) (texts_for q (item ∷ []))))
    ∙ ap (λ (texts : List Text). reported || list_any (bytes_eq text) texts) (sym (texts_for-append q items (item ∷ [])))

-- ---- whether a calendar that was read knows an entry

-- the texts of entries
kept-texts : (entry : Entry) (kept : List Entry)
    → list_any (λ (held : Entry). bytes_eq (spelling held) (spelling entry)) kept ≡ list_any (bytes_eq (spelling entry)) (map spelling kept)
kept-texts entry [] = refl
kept-texts entry (held ∷ kept) =
    ap₂ (λ a b. a || b) (nat_list_eq_equiv.symm (spelling held) (spelling entry)) (kept-texts entry kept)

or_thrice : (a b c : Bool) → ((a || b) || c) ≡ (a || (b || c))
or_thrice true b c = refl
or_thrice false b c = refl

pub known-once : (building : Building) (table : Text → Text → Bool) (imported : Text → List Text) (calendar : NamedCalendar)
    (items : List ImportedEntry) (entry : Entry) (texts : Text → Text → Bool) (read : Text → Bool) → read calendar.name ≡ true
    → ((text : Text) → in_file building calendar.name text ≡ has_in_file calendar text)
    → ((q text : Text) → texts q text
    ≡ ((read q && (in_file building q text || table q text)) || list_any (bytes_eq text) (texts_for q items)))
    → Tells table imported → texts calendar.name (spelling entry) ≡ is_known (with_items imported items) calendar entry
known-once building table imported calendar items entry texts read is_read file knows tells =
    let name = calendar.name in
    let text = spelling entry in
    let added = list_any (bytes_eq text) (texts_for name items) in
    knows name text ∙ ap (λ r. (r && (in_file building name text || table name text)) || added) is_read
    ∙ or_thrice (in_file building name text) (table name text) added
    ∙ ap₂ (λ f t. f || (t || added)) (file text ∙ sym (kept-texts entry calendar.calendar.entries)) (tells name text)
    ∙ ap (λ b. list_any (λ (held : Entry). bytes_eq (spelling held) (spelling entry)) calendar.calendar.entries || b)
    (sym (list_any-append (bytes_eq text) (imported name) (texts_for name items)))

-- an entry that is known adds nothing, one that is not adds its item
pub adds-nothing : (imported : Text → List Text) (calendar : NamedCalendar) (entry : Entry) (known : Bool)
    → known ≡ is_known imported calendar entry → known ≡ true → added_to imported entry (Some calendar) ≡ []
adds-nothing imported calendar entry known is holds = rw (sym is ∙ holds) refl

pub adds-item : (imported : Text → List Text) (calendar : NamedCalendar) (entry : Entry) (known : Bool)
    → known ≡ is_known imported calendar entry → known ≡ false
    → added_to imported entry (Some calendar) ≡ record { calendar = calendar.name; entry = entry } ∷ []
adds-item imported calendar entry known is fails = rw (sym is ∙ fails) refl

-- ---- a calendar of the building is the only one of its name

abbrev pub name-of : NamedCalendar → Text
name-of calendar = calendar.name

none-named : (name text : Text) (calendars : List NamedCalendar) → is_among name (map name-of calendars) ≡ false
    → list_any (λ calendar. bytes_eq calendar.name name && has_in_file calendar text) calendars ≡ false
none-named name text [] none = refl
none-named name text (c ∷ calendars) none =
    let parts = or_parts _ _ none in
    or_from _ _ (and_left (bytes_eq c.name name) (has_in_file c text) parts.0)
    (none-named name text calendars parts.1)

there-named : (calendars : List NamedCalendar) (place : ℕ) (calendar : NamedCalendar) → slice_get calendars place ≡ Some calendar
    → is_among calendar.name (map name-of calendars) ≡ true
there-named [] place calendar is = absurd (let n : ⊥ = cc in n)
there-named (c ∷ calendars) zero calendar is =
    let same : c ≡ calendar = cc in or_left _ _ ((bytes_eq-Decides c.name calendar.name).1 (ap name-of same))
there-named (c ∷ calendars) (suc place) calendar is = or_right _ _ (there-named calendars place calendar is)

pub only-one : (text : Text) (calendars : List NamedCalendar) → are_distinct (map name-of calendars) ≡ true
    → (place : ℕ) (calendar : NamedCalendar) → slice_get calendars place ≡ Some calendar
    → list_any (λ c. bytes_eq c.name calendar.name && has_in_file c text) calendars ≡ has_in_file calendar text
only-one text [] distinct place calendar is = absurd (let n : ⊥ = cc in n)
only-one text (c ∷ calendars) distinct zero calendar is =
    let same : c ≡ calendar = cc in
    let parts = and_parts (not (is_among c.name (map name-of calendars))) (are_distinct (map name-of calendars)) distinct in
    let none = none-named calendar.name text calendars (ap (λ (n : NamedCalendar). is_among n.name (map name-of calendars)) (sym same)
    ∙ not_true (is_among c.name (map name-of calendars)) parts.0) in
    ap₂ (λ a b. (a && has_in_file c text) || b) ((bytes_eq-Decides c.name calendar.name).1 (ap name-of same)) none
    ∙ or_none (has_in_file c text) ∙ ap (λ (n : NamedCalendar). has_in_file n text) same
  where
    or_none : (b : Bool) → (b || false) ≡ b
    or_none true = refl
    or_none false = refl
only-one text (c ∷ calendars) distinct (suc place) calendar is =
    let parts = and_parts (not (is_among c.name (map name-of calendars))) (are_distinct (map name-of calendars)) distinct in
    let none = not_true (is_among c.name (map name-of calendars)) parts.0 in
    let apart : bytes_eq c.name calendar.name ≡ false = elim (cases_Bool (bytes_eq c.name calendar.name)) [
      | inl same ↦ absurd (false≢true (sym none ∙ ap (λ n. is_among n (map name-of calendars)) ((bytes_eq-Decides c.name calendar.name).0 same)
          ∙ there-named calendars place calendar is))
      | inr other ↦ other
    ] in
    ap (λ a. (a && has_in_file c text) || list_any (λ d. bytes_eq d.name calendar.name && has_in_file d text) calendars) apart
    ∙ only-one text calendars parts.1 place calendar is

-- the calendar at a place of a building knows by the file what it has there
pub file-here : (building : Building) → are_distinct (map name-of building.calendars) ≡ true → (place : ℕ) (calendar : NamedCalendar)
    → slice_get building.calendars place ≡ Some calendar → (text : Text) → in_file building calendar.name text ≡ has_in_file calendar text
file-here building distinct place calendar is text = only-one text building.calendars distinct place calendar is
