-- What a survey of the tables tells.
use Rattle.std.specs.Prelude.{◌≡◌, ℕ, List, false, length}
use Rattle.std.specs.List.{AllZip, sum_by}
use Rattle.building.specs.Building.{Building}
use Rattle.dates.specs.declared.entry.Entry.{Entry}
use Rattle.store.specs.declared.names.Names.{Names}
use Rattle.store.specs.Asked.Asked.{AnyName, LastTick, NextOf, ShownBy}
use Rattle.store.specs.Listed.{AreEntries, AreNames, HasPanel, HasSchedule}
use Rattle.store.specs.Standing.{Standing}
use Rattle.store.specs.Tables.{Tables}
use Rattle.points.specs.Texts.{Text}
use Rattle.desk_adopt.specs.declared.finding.Finding.{Finding}
use Rattle.desk_adopt.specs.declared.holdings.Holdings.{Holdings}
use Rattle.desk_adopt.specs.Findings.{findings_of}

-- so many entries are imported into these calendars
pub record AreCounted (tables : Tables) (calendars : List Text) (count : ℕ) : Type 0 where
  pub lists : List (List Entry)
  pub each : AllZip (AreEntries tables) calendars lists
  pub counted : count ≡ sum_by length lists

-- what the tables hold in which these names stand
pub record AreHeld (tables : Tables) (names : Names) (holdings : Holdings) : Type 0 where
  pub panels : holdings.panels ≡ length names.panels.items
  pub points : holdings.points ≡ length names.points.items
  pub schedules : holdings.schedules ≡ length names.schedules.items
  pub entries : AreCounted tables names.calendars.items holdings.entries

-- exactly what of the tables does not suit the building, and what they hold
pub record IsSurvey (building : Building) (tables : Tables) (findings : List Finding) (holdings : Holdings) : Type 0 where
  pub names : Names
  pub are_names : AreNames tables names
  pub found : findings ≡ findings_of building tables.places tables.last_tick names
  pub held : AreHeld tables names holdings

-- of the rows of names, of the last tick, of the panels' next numbers and of what the schedules show each can stand
pub record HaveStood (standing : Standing) : Type 0 where
  pub names : standing.cannot_stand AnyName ≡ false
  pub last : standing.cannot_stand LastTick ≡ false
  pub nexts : (panel : Text) → HasPanel standing.content.tables panel → standing.cannot_stand (NextOf panel) ≡ false
  pub shown : (schedule : Text) → HasSchedule standing.content.tables schedule → standing.cannot_stand (ShownBy schedule) ≡ false
