-- What a run has asked, and what it has printed.
use Rattle.std.proofs.Common.{◌≡◌, ◌∙◌, List, [], Err, Ok, OnErr, OnOk, Result, Option, Some, None, refl, sym, ap, subst}
use Rattle.std.specs.Prelude.{IsOk}
use Rattle.std.proofs.lemmas.Bool.{false≢true}
use Rattle.std.specs.Io.KnownBytes.{Keeps}
use Rattle.building.specs.Building.{Building, contents_of}
use Rattle.building.specs.BuildingFile.{building_of}
use Rattle.dates.specs.declared.range.Range.{Range}
use Rattle.desk_settling.specs.Calendars.{Tells, calendars_of}
use Rattle.points.specs.Texts.{Text}
use Rattle.store.specs.Standing.{Content, sound}
use Rattle.store.specs.Tables.{no_tables}
use Rattle.cli_days.specs.DayLines.{days_text}
use Rattle.cli_days.specs.Listed.{Asks, SpellsRange, asked_listing}

-- what holds at all holds at an `Ok`
pub of_any : {T E : Type 0} (r : Result T E) (P : Type 0) → P → OnOk r P
of_any {T} {E} (Ok x) P p = p
of_any {T} {E} (Err e) P p = tt

-- what follows from what an `Ok` holds, holds at it
pub on_ok : {T E : Type 0} (r : Result T E) {P Q : Type 0} → (P → Q) → OnOk r P → OnOk r Q
on_ok {T} {E} (Ok x) {P} {Q} f p = f p
on_ok {T} {E} (Err e) {P} {Q} f p = tt

pub at_any_err : {T E : Type 0} (r : Result T E) (P : Type 0) → P → OnErr r P
at_any_err {T} {E} (Ok x) P p = tt
at_any_err {T} {E} (Err e) P p = p

pub at_ok : {T E : Type 0} (r : Result T E) (P : Type 0) → IsOk r → OnOk r P → P
at_ok {T} {E} (Ok x) P is p = p
at_ok {T} {E} (Err e) P is p = absurd (false≢true is)

abbrev pub asks_of : (file from to : Text) (b : Building) (range : Range) → building_of file ≡ Ok (contents_of b) → SpellsRange from to range
    → Asks file from to
asks_of file from to b range building_is spells = record {
  building = b;
  building_is = building_is;
  first = spells.first;
  last = spells.last;
  first_is = spells.first_is;
  last_is = spells.last_is;
}

-- the text of the range is that of what is asked
pub asked-text : (file from to : Text) (b : Building) (range : Range) (building_is : building_of file ≡ Ok (contents_of b))
    (spells : SpellsRange from to range) (imported : Text → List Text)
    → days_text b (calendars_of b imported) range ≡ asked_listing (asks_of file from to b range building_is spells) imported
asked-text file from to b range building_is spells imported = ap (days_text b (calendars_of b imported)) spells.range_is

-- a store that is empty tells of nothing
pub nothing-told : (content : Content) → content ≡ sound no_tables → Tells content.tables.imported (λ calendar. [])
nothing-told content empty =
    subst (λ (k : Content). Tells k.tables.imported (λ calendar. [])) (sym empty) (λ calendar text. refl)

pub Keeps-Keeps : (a b c : Option Text) → Keeps a b → Keeps b c → Keeps a c
Keeps-Keeps None b c h k = tt
Keeps-Keeps (Some xs) None c h k = absurd h
Keeps-Keeps (Some xs) (Some ys) None h k = absurd k
Keeps-Keeps (Some xs) (Some ys) (Some zs) h k = k ∙ h
