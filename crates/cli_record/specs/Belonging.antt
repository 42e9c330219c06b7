-- Whether tables are those of a record, in what no rule of a building decides.
use Rattle.std.specs.Prelude.{◌≡◌, ◌⊎◌, ℕ, ◌≤◌, ◌<◌, List, [], ◌∷◌, ◌++◌, Option, Some, None, option_map}
use Rattle.std.specs.List.{Contains}
use Rattle.building.specs.Building.{Building}
use Rattle.deliveries.specs.declared.delivery.Delivery.{Delivery}
use Rattle.deliveries.specs.Tables.{tables}
use Rattle.points.specs.declared.command_row.CommandRow.{CommandRow}
use Rattle.points.specs.declared.content.Content.{Content}
use Rattle.points.specs.declared.panel.Panel.{Panel}
use Rattle.points.specs.Run.{Rows}
use Rattle.points.specs.Texts.{Text}
use Rattle.store.specs.Tables.{Tables}
use Rattle.cli_record.specs.declared.belonging.First.{First}
use Rattle.cli_record.specs.declared.difference.Difference.{Difference}
use Rattle.cli_record.specs.declared.difference.Difference.TheVariants.{Command, LastTick, NextNumber, NotRecorded, Place, RecordedAlone, Shown}
use Rattle.cli_record.specs.Differences.{end_number, first_number, first_place}
use Rattle.cli_record.specs.RecordRun.{Lists}

-- what a panel sent under a number, where a row is kept of it
abbrev pub sent : Rows → ℕ → Option Content
sent rows number = option_map (λ (row : CommandRow). row.content) (rows number)

-- two sides have one content or none under each number that a panel with this next number may still repeat or use
abbrev pub SentAlike : Rows → Rows → ℕ → Type 0
SentAlike held recorded next =
    (number : ℕ) → first_number next ≤ number → number < end_number next → sent held number ≡ sent recorded number

-- the panel has one next number, and sent the same
pub record AlikeAtPanel (held recorded : Tables) (panel : Text) : Type 0 where
  pub next : held.next panel ≡ recorded.next panel
  pub contents : SentAlike (held.row panel) (recorded.row panel) (held.next panel)

abbrev pub AlikeAtPanels : Tables → Tables → List Panel → Type 0
AlikeAtPanels held recorded panels = (panel : Panel) → Contains panels panel → AlikeAtPanel held recorded panel.name

-- what no rule decides is the same: each panel's next number, what it sent, and the last tick
pub record Alike (building : Building) (held recorded : Tables) : Type 0 where
  pub panels : AlikeAtPanels held recorded building.panels
  pub last_tick : held.last_tick ≡ recorded.last_tick

-- in what no rule decides the tables are those of a record's deliveries behind earlier ones, or of all of these but the last, which is
-- still to be made
abbrev pub Belongs : Building → (earlier deliveries : List Delivery) → Tables → Type 0
Belongs building earlier deliveries held = Alike building held (tables building (earlier ++ deliveries))
    ⊎ ((before : List Delivery) × (last : Delivery) × (deliveries ≡ before ++ last ∷ [])
    × Alike building held (tables building (earlier ++ before)))

-- the tables belong to a record of these bytes: to the deliveries of its whole lines behind earlier ones
pub record IsOfRecord (building : Building) (earlier : List Delivery) (bytes : List ℕ) (held : Tables) : Type 0 where
  pub deliveries : List Delivery
  pub lists : Lists building bytes deliveries
  pub belongs : Belongs building earlier deliveries held

-- ---- what is told where they don't

-- a next number, what was sent under a number, or the last tick is not what the other side has
abbrev pub IsUnlike : Tables → Tables → Difference → Type 0
IsUnlike held recorded (NextNumber panel ours theirs) =
    (ours ≡ held.next panel) × (theirs ≡ recorded.next panel) × (ours ≡ theirs → ⊥)
IsUnlike held recorded (Command panel number) = sent (held.row panel) number ≡ sent (recorded.row panel) number → ⊥
IsUnlike held recorded (LastTick ours theirs) = (ours ≡ held.last_tick) × (theirs ≡ recorded.last_tick) × (ours ≡ theirs → ⊥)
IsUnlike held recorded (Place point priority ours theirs) = ⊥
IsUnlike held recorded (Shown schedule) = ⊥
IsUnlike held recorded (NotRecorded calendar entry) = ⊥
IsUnlike held recorded (RecordedAlone calendar entry) = ⊥

-- both sides are alike, or a difference is told, and is one
abbrev pub AlikeOrTold : Type 0 → Tables → Tables → Option Difference → Type 0
AlikeOrTold AreAlike held recorded None = AreAlike
AlikeOrTold AreAlike held recorded (Some difference) = (AreAlike → ⊥) × IsUnlike held recorded difference

-- both sides are alike, and it is told which place of a point is the first that differs, if one does; or a difference is told
pub record TellsFirst (building : Building) (held recorded : Tables) (difference otherwise : Option Difference) : Type 0 where
  pub told : AlikeOrTold (Alike building held recorded) held recorded difference
  pub first : difference ≡ None → otherwise ≡ first_place building held recorded

-- of what is found beside all of a record's deliveries but the last, and beside all: the second, unless the tables are alike to the
-- first alone
abbrev pub of_which : First → First → (all before : Option Difference) → First
of_which before all None difference = all
of_which before all (Some difference) None = before
of_which before all (Some difference) (Some other) = all

abbrev pub of_both : First → First → First
of_both before all = of_which before all all.difference before.difference

-- the record lists deliveries; the tables belong to them, or do not, and then a difference from the tables of all of them is told
abbrev pub IsMatched : Building → List Delivery → List ℕ → Tables → Option Difference → Type 0
IsMatched building earlier bytes held found = (deliveries : List Delivery) × Lists building bytes deliveries
    × AlikeOrTold (Belongs building earlier deliveries held) held (tables building (earlier ++ deliveries)) found

-- ---- what the record makes with the building's file, where they belong to it

-- all of a record's deliveries, or all but the last
abbrev pub AreMade : (deliveries made : List Delivery) → Type 0
AreMade deliveries made = (made ≡ deliveries) ⊎ ((last : Delivery) × (deliveries ≡ made ++ last ∷ []))

-- In what no rule decides the tables are those of all of the record's deliveries, or of all but the last; and of these it is told
-- which place of a point is the first that has another value in the tables, if one has. Where the last is an import they may be
-- both: then nothing is told if each point has the values of one of them.
pub record TellsOtherwise (building : Building) (earlier : List Delivery) (bytes : List ℕ) (held : Tables)
    (otherwise : Option Difference) : Type 0 where
  pub deliveries : List Delivery
  pub lists : Lists building bytes deliveries
  pub made : List Delivery
  pub are_made : AreMade deliveries made
  pub alike : Alike building held (tables building (earlier ++ made))
  pub first : otherwise ≡ first_place building held (tables building (earlier ++ made))
  pub of_neither : (other : List Delivery) → AreMade deliveries other → Alike building held (tables building (earlier ++ other))
      → first_place building held (tables building (earlier ++ other)) ≡ None → otherwise ≡ None
