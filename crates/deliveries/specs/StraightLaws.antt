-- The laws of the straight list.
use Rattle.std.specs.Prelude.{◌≡◌, ℤ, pos, int_lt, if◌then◌else◌, ◌<◌, List, [], ◌∷◌, ◌++◌, map, zero}
use Rattle.std.specs.Bool.{IsTrue}
use Rattle.std.specs.List.{flat_map}
use Rattle.std.specs.Str.{bytes_eq}
use Rattle.points.specs.Texts.{Text}
use Rattle.building.specs.Building.{Building}
use Rattle.building.specs.Roster.{are_distinct}
use Rattle.points.specs.declared.panel.Panel.{Panel}
use Rattle.deliveries.specs.declared.delivery.Delivery.{Delivery}
use Rattle.deliveries.specs.declared.delivery.Delivery.TheVariants.{Command, Skip, Tick, Import}
use Rattle.deliveries.specs.declared.reply.Reply.{Reply}
use Rattle.deliveries.specs.declared.reply.Reply.TheVariants as answer_of
use Rattle.deliveries.specs.Events.{events_after}
use Rattle.deliveries.specs.Laws.{HasDistinctSchedules}
use Rattle.deliveries.specs.Machine.{opening_machine}
use Rattle.deliveries.specs.Reply.{reply}
use Rattle.deliveries.specs.Tables.{tables}
use Rattle.deliveries.specs.Cut.{cut}
use Rattle.deliveries.specs.StraightList.{straight_list}

-- The machine does the same: the events are those of the list, with each import cut to the rows that it adds.
abbrev pub SameMachine : Building → List Delivery → List Delivery → Type 0
SameMachine building deliveries straight =
    events_after building [] straight ≡ cut building opening_machine (events_after building [] deliveries)

-- It leaves the same tables, kept answers included.
abbrev pub SameTables : Building → List Delivery → List Delivery → Type 0
SameTables building deliveries straight = tables building straight ≡ tables building deliveries

-- ---- no tolerance is used

abbrev pub IsAnswered : Reply → Type 0
IsAnswered (answer_of.Answered number answer) = Unit {0}
IsAnswered other = ⊥

abbrev pub IsTicked : Reply → Type 0
IsTicked (answer_of.Ticked writes) = Unit {0}
IsTicked other = ⊥

abbrev pub IsParked : Reply → Type 0
IsParked (answer_of.Parked next number) = Unit {0}
IsParked other = ⊥

abbrev pub AddsAll : Reply → Type 0
AddsAll (answer_of.Imported added known writes) = (zero < added) × (known ≡ zero)
AddsAll other = ⊥

-- a command is acted on at once, a skip moves its panel's next number, a tick is a later one, an import adds a row
-- and knows none
abbrev pub IsInTurn : Building → List Delivery → Delivery → Type 0
IsInTurn building earlier (Command panel number content) = IsAnswered (reply building earlier (Command panel number content))
IsInTurn building earlier (Skip panel upto) =
    (tables building earlier).next panel < (tables building (earlier ++ Skip panel upto ∷ [])).next panel
IsInTurn building earlier (Tick moment) = IsTicked (reply building earlier (Tick moment))
IsInTurn building earlier (Import rows) = AddsAll (reply building earlier (Import rows))

abbrev pub StaysParked : Building → List Delivery → Delivery → Type 0
StaysParked building earlier delivery = IsParked (reply building earlier delivery)

-- each of further deliveries, after those before it
abbrev pub EachAfter : (Building → List Delivery → Delivery → Type 0) → Building → List Delivery → List Delivery → Type 0
EachAfter Holds building earlier [] = Unit {0}
EachAfter Holds building earlier (delivery ∷ deliveries) =
    Holds building earlier delivery × EachAfter Holds building (earlier ++ delivery ∷ []) deliveries

-- the number of a panel's command
abbrev pub numbers_by : Text → Delivery → List ℤ
numbers_by name (Command panel number content) = if bytes_eq panel name then number ∷ [] else []
numbers_by name (Skip panel upto) = []
numbers_by name (Tick moment) = []
numbers_by name (Import rows) = []

-- each is greater than the one before it
abbrev pub RiseAbove : ℤ → List ℤ → Type 0
RiseAbove last [] = Unit {0}
RiseAbove last (number ∷ numbers) = IsTrue (int_lt last number) × RiseAbove number numbers

-- A list that needs no tolerance: first deliveries that each do something at once, then a group of commands that are
-- parked; and the numbers of each panel's commands rise.
pub record UsesNoTolerance (building : Building) (straight : List Delivery) : Type 0 where
  pub first : List Delivery
  pub last_group : List Delivery
  pub parts : straight ≡ first ++ last_group
  pub in_turn : EachAfter IsInTurn building [] first
  pub stays_parked : EachAfter StaysParked building first last_group
  pub rise : (panel : Text) → RiseAbove (pos 0) (flat_map (numbers_by panel) straight)

-- no two panels have one name, as in each building that was read
abbrev pub HasDistinctPanels : Building → Type 0
HasDistinctPanels building = IsTrue (are_distinct (map (λ (panel : Panel). panel.name) building.panels))

abbrev pub StraightIsSameMachine : Type 0
StraightIsSameMachine = (building : Building) (deliveries : List Delivery) → HasDistinctSchedules building
    → HasDistinctPanels building → SameMachine building deliveries (straight_list building deliveries)

abbrev pub StraightIsSameTables : Type 0
StraightIsSameTables = (building : Building) (deliveries : List Delivery) → HasDistinctSchedules building
    → HasDistinctPanels building → SameTables building deliveries (straight_list building deliveries)

abbrev pub StraightUsesNoTolerance : Type 0
StraightUsesNoTolerance = (building : Building) (deliveries : List Delivery) → HasDistinctSchedules building
    → HasDistinctPanels building → UsesNoTolerance building (straight_list building deliveries)

-- a list in another's place: it needs no tolerance, the machine does the same, and it leaves the same tables
pub record IsStraightOf (building : Building) (deliveries straight : List Delivery) : Type 0 where
  pub no_tolerance : UsesNoTolerance building straight
  pub same_machine : SameMachine building deliveries straight
  pub same_tables : SameTables building deliveries straight
