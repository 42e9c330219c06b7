-- What commands of one panel do to the machine, and to the rows.
use Rattle.std.proofs.Common.{◌≡◌, ℕ, ◌+◌, ◌<◌, ◌≤◌, ◌==◌, true, false, List, [], ◌∷◌, ◌++◌, Some, None, refl, sym, ap, ◌∙◌, arith, inl, inr}
use Rattle.std.specs.Str.{bytes_eq}
use Rattle.std.proofs.lemmas.Bool.Decides.{nat_tests}
use Rattle.std.proofs.lemmas.Bool.{cases_Bool}
use Rattle.std.proofs.lemmas.Slice.Eq.{bytes_eq-Decides}
use Rattle.points.specs.declared.command_row.CommandState.TheVariants.{Answered}
use Rattle.points.specs.declared.content.Content.{Content}
use Rattle.points.specs.PriorityArray.{Places}
use Rattle.points.specs.Run.{Rows}
use Rattle.store.specs.Change.{with_each, with_row}
use Rattle.points.specs.Texts.{Text}
use Rattle.window.specs.declared.numbered_content.NumberedContent.{NumberedContent}
use Rattle.window.specs.Taken.{content_in}
use Rattle.building.specs.Building.{Building}
use Rattle.deliveries.specs.Events.{events_of}
use Rattle.deliveries.specs.Machine.{Machine, Command, answer_to, places_after, run, step}
use Rattle.deliveries.specs.Moved.{answered_rows, places_after_each}

pub bytes_eq-same : (name : Text) → bytes_eq name name ≡ true
bytes_eq-same name = (bytes_eq-Decides name name).1 refl

-- the places of the machine
pub places-run : (b : Building) (m : Machine) (p : Text) (entries : List NumberedContent)
    → (run b m (events_of p entries)).places ≡ places_after_each b m.places p entries
places-run b m p [] = refl
places-run b m p (entry ∷ entries) = places-run b (step b m (Command p entry.number entry.content)) p entries

-- commands leave what schedules show, what is imported, and the last tick
pub shown-run : (b : Building) (m : Machine) (p : Text) (entries : List NumberedContent) → (run b m (events_of p entries)).shown ≡ m.shown
shown-run b m p [] = refl
shown-run b m p (entry ∷ entries) = shown-run b (step b m (Command p entry.number entry.content)) p entries

pub imported-run : (b : Building) (m : Machine) (p : Text) (entries : List NumberedContent)
    → (run b m (events_of p entries)).imported ≡ m.imported
imported-run b m p [] = refl
imported-run b m p (entry ∷ entries) = imported-run b (step b m (Command p entry.number entry.content)) p entries

pub last_tick-run : (b : Building) (m : Machine) (p : Text) (entries : List NumberedContent)
    → (run b m (events_of p entries)).last_tick ≡ m.last_tick
last_tick-run b m p [] = refl
last_tick-run b m p (entry ∷ entries) = last_tick-run b (step b m (Command p entry.number entry.content)) p entries

-- the answers of other panels stay
pub answers-elsewhere : (b : Building) (m : Machine) (p q : Text) (number : ℕ) (entries : List NumberedContent) → bytes_eq p q ≡ false
    → (run b m (events_of p entries)).answers q number ≡ m.answers q number
answers-elsewhere b m p q number [] apart = refl
answers-elsewhere b m p q number (entry ∷ entries) apart =
    answers-elsewhere b (step b m (Command p entry.number entry.content)) p q number entries apart ∙ rw apart refl

content_in-tail : (entry : NumberedContent) (entries : List NumberedContent) (number : ℕ) → content_in (entry ∷ entries) number ≡ None
    → (entry.number == number) ≡ false
content_in-tail entry entries number none = elim (cases_Bool (entry.number == number)) [
  | inl same ↦ let found : Some entry.content ≡ None = rw same at none in absurd cc
  | inr apart ↦ apart
]

content_in-rest : (entry : NumberedContent) (entries : List NumberedContent) (number : ℕ) → (entry.number == number) ≡ false
    → content_in entries number ≡ content_in (entry ∷ entries) number
content_in-rest entry entries number apart = rw apart refl

-- and so do those of numbers that are not acted on
pub answers-apart : (b : Building) (m : Machine) (p : Text) (number : ℕ) (entries : List NumberedContent) → content_in entries number ≡ None
    → (run b m (events_of p entries)).answers p number ≡ m.answers p number
answers-apart b m p number [] none = refl
answers-apart b m p number (entry ∷ entries) none =
    let apart = content_in-tail entry entries number none in
    answers-apart b (step b m (Command p entry.number entry.content)) p number entries (content_in-rest entry entries number apart ∙ none)
    ∙ rw (bytes_eq-same p, apart) refl

-- contents by rising number, from a number on
abbrev pub Rise : ℕ → List NumberedContent → Type 0
Rise from [] = Unit {0}
Rise from (entry ∷ entries) = (from ≤ entry.number) × Rise (entry.number + 1) entries

pub content_in-below : (from number : ℕ) (entries : List NumberedContent) → Rise from entries → number < from
    → content_in entries number ≡ None
content_in-below from number [] rise below = refl
content_in-below from number (entry ∷ entries) rise below =
    let least = rise.0 in
    let apart : (entry.number == number) ≡ false = grind (arith, nat_tests) in
    rw apart (content_in-below (entry.number + 1) number entries rise.1 (omega (arith, least, below)))

-- rows

pub with_each-append : {Item Table : Type 0} (put_item : Item → Table → Table) (xs ys : List Item) (table : Table)
    → with_each put_item (xs ++ ys) table ≡ with_each put_item ys (with_each put_item xs table)
with_each-append put_item [] ys table = refl
with_each-append put_item (x ∷ xs) ys table = with_each-append put_item xs ys (put_item x table)

-- rows of one panel leave those of another
pub rows-elsewhere : (b : Building) (places : Text → Places) (p q : Text) (number : ℕ) (entries : List NumberedContent) (row : Text → Rows)
    → bytes_eq p q ≡ false → with_each with_row (answered_rows b places p entries) row q number ≡ row q number
rows-elsewhere b places p q number [] row apart = refl
rows-elsewhere b places p q number (entry ∷ entries) row apart =
    rows-elsewhere b (places_after b places p entry.content) p q number entries _ apart ∙ rw apart refl

-- and the numbers that are not acted on
pub rows-apart : (b : Building) (places : Text → Places) (p : Text) (number : ℕ) (entries : List NumberedContent) (row : Text → Rows)
    → content_in entries number ≡ None → with_each with_row (answered_rows b places p entries) row p number ≡ row p number
rows-apart b places p number [] row none = refl
rows-apart b places p number (entry ∷ entries) row none =
    let apart = content_in-tail entry entries number none in
    rows-apart b (places_after b places p entry.content) p number entries _ (content_in-rest entry entries number apart ∙ none)
    ∙ rw (bytes_eq-same p, apart) refl

some_same : (x y : Content) → Some x ≡ Some y → x ≡ y
some_same x y e = cc

-- a number that is acted on has its content and the machine's answer
pub rows-here : (b : Building) (m : Machine) (p : Text) (number from : ℕ) (content : Content) (entries : List NumberedContent)
    (row : Text → Rows)
    → Rise from entries → content_in entries number ≡ Some content
    → with_each with_row (answered_rows b m.places p entries) row p number
    ≡ Some (record { content = content; state = Answered ((run b m (events_of p entries)).answers p number) })
rows-here b m p number from content [] row rise found = absurd cc
rows-here b m p number from content (entry ∷ entries) row rise found =
    let next = step b m (Command p entry.number entry.content) in
    elim (cases_Bool (entry.number == number)) [
      | inl same ↦
          let at : entry.number ≡ number = grind (arith, nat_tests) in
          let none = content_in-below (entry.number + 1) number entries rise.1 (omega (arith, at)) in
          let is : entry.content ≡ content = some_same entry.content content (rw same at found) in
          rows-apart b next.places p number entries _ none
          ∙ (rw (bytes_eq-same p, same) refl
          ∙ ap (λ (c : Content). Some (record { content = c; state = Answered (answer_to b m.places p entry.content) })) is
          ∙ ap (λ answer. Some (record { content = content; state = Answered answer }))
          (sym (answers-apart b next p number entries none ∙ rw (bytes_eq-same p, same) refl)))
      | inr apart ↦ rows-here b next p number (entry.number + 1) content entries _ rise.1
          (content_in-rest entry entries number apart ∙ found)
    ]
