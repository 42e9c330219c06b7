-- A calendar with the entries that a store keeps for it holds as one with what is imported.
use Rattle.std.proofs.Common.{◌≡◌, ◌∙◌, Bool, true, false, ◌||◌, List, [], ◌++◌, map, refl, ap}
use Rattle.std.proofs.Math.Path.{fun_ext}
use Rattle.std.specs.Bool.{IsTrue}
use Rattle.std.specs.List.{All, list_any}
use Rattle.std.proofs.lemmas.List.{append-nil}
use Rattle.std.proofs.lemmas.List.Elements.{All-nil}
use Rattle.std.proofs.lemmas.List.Folds.{list_any-append}
use Rattle.jiff_core.specs.declared.civil.date.Date.{Date}
use Rattle.building.specs.declared.named_calendar.NamedCalendar.{NamedCalendar}
use Rattle.dates.specs.declared.entry.Entry.{Entry}
use Rattle.dates.specs.Entry.{IsEntry, holds_on, spelling}
use Rattle.desk_settling.specs.Calendars.{Tells, with_items, with_texts}
use Rattle.desk_settling.proofs.HoldLemmas.{holds-parts}
use Rattle.points.specs.Texts.{Text}
use Rattle.sched.specs.declared.calendar.Calendar.{Calendar}
use Rattle.sched.specs.Calendar.{calendar_holds}
use Rattle.store.specs.declared.change.ImportedEntry.{ImportedEntry}
use Rattle.store.specs.Listed.{AreTexts}

or-none : (a b : Bool) → (a || b) ≡ (a || (b || false))
or-none true b = refl
or-none false true = refl
or-none false false = refl

with_items-none : (imported : Text → List Text) → with_items imported [] ≡ imported
with_items-none imported = fun_ext (λ calendar. append-nil (imported calendar))

pub holds-with : (table : Text → Text → Bool) (imported : Text → List Text) (calendar : NamedCalendar) (kept : List Entry)
    (found : Calendar) → AreTexts (λ text. IsTrue (table calendar.name text)) (map spelling kept) → All IsEntry kept
    → Tells table imported → found.entries ≡ calendar.calendar.entries ++ kept → (day : Date)
    → calendar_holds found day ≡ calendar_holds (with_texts imported calendar) day
holds-with table imported calendar kept found are all tells is day =
    ap (λ (entries : List Entry). list_any (λ (entry : Entry). holds_on entry day) entries) is
    ∙ (list_any-append (λ (entry : Entry). holds_on entry day) calendar.calendar.entries kept
    ∙ (or-none _ _
    ∙ (holds-parts table imported calendar kept [] day are all (All-nil (λ (item : ImportedEntry). IsEntry item.entry)) tells
    ∙ ap (λ (shown : Text → List Text). calendar_holds (with_texts shown calendar) day) (with_items-none imported))))
