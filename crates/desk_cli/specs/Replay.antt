-- What a replay prints: what the lines are answered, and then the points.
use Rattle.std.specs.Prelude.{◌≡◌, ◌⊎◌, ℕ, ℤ, int_lt, Bool, false, ◌||◌, ◌==◌, List, [], ◌∷◌, ◌++◌, Option, Some, None}
use Rattle.std.specs.Prelude.{Ok, if◌then◌else◌, option_map}
use Rattle.std.specs.List.{flat_map}
use Rattle.std.specs.Option.{option_map_or}
use Rattle.std.specs.Str.{bytes_eq}
use Rattle.std.specs.Io.KnownBytes.{Appends, Keeps}
use Rattle.points.specs.declared.Point.{Point}
use Rattle.points.specs.Rights.{point_named}
use Rattle.building.specs.Building.{Building, contents_of}
use Rattle.building.specs.BuildingFile.{building_of}
use Rattle.deliveries.specs.declared.delivery.Delivery.{Delivery}
use Rattle.deliveries.specs.declared.delivery.Delivery.TheVariants as delivery_of
use Rattle.desk.specs.declared.PointState.{PointState}
use Rattle.desk.specs.PointState.{state_of}
use Rattle.deliveries.specs.Reply.{reply}
use Rattle.deliveries.specs.Tables.{tables}
use Rattle.store.specs.Standing.{Content, sound}
use Rattle.store.specs.Tables.{Tables}
use Rattle.delivery_json.specs.declared.parsed_line.ParsedLine.{ParsedLine}
use Rattle.delivery_json.specs.declared.parsed_line.ParsedLine.TheVariants as of
use Rattle.delivery_json.specs.DeliveryLine.{parse_line}
use Rattle.points.specs.Beginnings.{AppendsStart}
use Rattle.points.specs.PointLine.{point_line}
use Rattle.delivery_json.specs.ReplyText.{refusal_line, reply_line}
use Rattle.points.specs.Steps.{◌>>=◌}
use Rattle.points.specs.Texts.{Text}
use Rattle.desk_cli.specs.Until.{IsUntil, until_line}

-- ---- lines

abbrev pub with_first : ℕ → List (List ℕ) → List (List ℕ)
with_first x [] = (x ∷ []) ∷ []
with_first x (line ∷ lines) = (x ∷ line) ∷ lines

-- the lines of bytes, each without its LF; after the last LF a line stands only if it has bytes
abbrev pub lines_of : List ℕ → List (List ℕ)
lines_of [] = []
lines_of (x ∷ xs) = if x == 10 then [] ∷ lines_of xs else with_first x (lines_of xs)

-- the line has no bytes, or a CR alone
abbrev pub is_empty_line : List ℕ → Bool
is_empty_line line = bytes_eq line [] || bytes_eq line (13 ∷ [])

-- ---- the lines up to a moment

abbrev pub is_tick_past : ℤ → Delivery → Bool
is_tick_past until (delivery_of.Command panel number content) = false
is_tick_past until (delivery_of.Skip panel upto) = false
is_tick_past until (delivery_of.Tick moment) = int_lt until moment
is_tick_past until (delivery_of.Import rows) = false

abbrev pub is_parsed_past : ℤ → ParsedLine → Bool
is_parsed_past until (of.Delivery delivery) = is_tick_past until delivery
is_parsed_past until (of.RefusedImport refused) = false

-- the line tells a tick later than a moment
abbrev pub is_past : Building → ℤ → List ℕ → Bool
is_past building until line = option_map_or (is_parsed_past until) (parse_line building line) false

abbrev pub is_past_until : Building → Option ℤ → List ℕ → Bool
is_past_until building None line = false
is_past_until building (Some until) line = is_past building until line

-- the lines before the first that tells one
abbrev pub lines_before : Building → ℤ → List (List ℕ) → List (List ℕ)
lines_before building until [] = []
lines_before building until (line ∷ lines) = if is_past building until line then [] else line ∷ lines_before building until lines

-- the same, where there is a moment to stop at; else all lines
abbrev pub lines_until : Building → Option ℤ → List (List ℕ) → List (List ℕ)
lines_until building None lines = lines
lines_until building (Some until) lines = lines_before building until lines

-- ---- what they tell

-- what the lines tell, without the empty ones, where each of the others tells something
abbrev pub parsed_by : Building → List (List ℕ) → Option (List ParsedLine)
parsed_by building [] = Some []
parsed_by building (line ∷ lines) = if is_empty_line line then parsed_by building lines
    else (parse_line building line >>= (λ one. option_map (λ others. one ∷ others) (parsed_by building lines)))

-- the deliveries among it: an import whose holiday list is at fault is none
abbrev pub deliveries_in : List ParsedLine → List Delivery
deliveries_in [] = []
deliveries_in (of.Delivery delivery ∷ parsed) = delivery ∷ deliveries_in parsed
deliveries_in (of.RefusedImport refused ∷ parsed) = deliveries_in parsed

-- ---- what is printed

-- what is answered after earlier deliveries: each delivery its reply, after those before it, and each list at fault
-- its refusal
abbrev pub answers_to : Building → List Delivery → List ParsedLine → List ℕ
answers_to building earlier [] = []
answers_to building earlier (of.Delivery delivery ∷ parsed) =
    reply_line (reply building earlier delivery) ++ answers_to building (earlier ++ delivery ∷ []) parsed
answers_to building earlier (of.RefusedImport refused ∷ parsed) = refusal_line refused ++ answers_to building earlier parsed

-- the line of a point that the building has
abbrev pub state_line : List ℕ → Option PointState → List ℕ
state_line name None = []
state_line name (Some state) = point_line name state.present state.priority

abbrev pub line_of_point : Building → Tables → Point → List ℕ
line_of_point building now point =
    state_line point.name (state_of (now.places point.name) (point_named building.points point.name))

abbrev pub point_lines : Building → Tables → List ℕ
point_lines building now = flat_map (line_of_point building now) building.points

-- after earlier deliveries what the lines tell was answered, and the tables are those with the deliveries among it
pub record Prints (building : Building) (earlier : List Delivery) (lines : List (List ℕ)) (old new : Option (List ℕ))
    (now : Content) : Type 0 where
  pub parsed : List ParsedLine
  pub parsed_is : parsed_by building lines ≡ Some parsed
  pub printed : Appends old new (answers_to building earlier parsed)
  pub holds : now ≡ sound (tables building (earlier ++ deliveries_in parsed))

-- the file is a building, each line of the list up to the moment that is said tells something, and what was printed is
-- what they are answered after earlier deliveries, then the points as their deliveries leave them, and which moment that was
pub record Replays (said : Option Text) (file : List ℕ) (earlier : List Delivery) (list : List ℕ) (old new : Option (List ℕ)) :
    Type 0 where
  pub building : Building
  pub until : Option ℤ
  pub parsed : List ParsedLine
  pub building_is : building_of file ≡ Ok (contents_of building)
  pub until_is : IsUntil building said until
  pub parsed_is : parsed_by building (lines_until building until (lines_of list)) ≡ Some parsed
  pub printed : Appends old new
      (answers_to building earlier parsed
      ++ (point_lines building (tables building (earlier ++ deliveries_in parsed)) ++ until_line building until))

-- ---- what is printed at most, whatever the end

-- after earlier deliveries a beginning of what the first lines are answered was printed
pub record PrintsStart (building : Building) (earlier : List Delivery) (lines : List (List ℕ))
    (old new : Option (List ℕ)) : Type 0 where
  pub first : List (List ℕ)
  pub others : List (List ℕ)
  pub parsed : List ParsedLine
  pub cut : lines ≡ first ++ others
  pub parsed_is : parsed_by building first ≡ Some parsed
  pub printed : AppendsStart old new (answers_to building earlier parsed)

-- each line up to a moment tells something, and a beginning of what they are answered after earlier deliveries, the points
-- and the moment was printed
pub record PrintsAllLines (building : Building) (until : Option ℤ) (earlier : List Delivery) (list : List ℕ)
    (old new : Option (List ℕ)) : Type 0 where
  pub parsed : List ParsedLine
  pub parsed_is : parsed_by building (lines_until building until (lines_of list)) ≡ Some parsed
  pub printed : AppendsStart old new
      (answers_to building earlier parsed
      ++ (point_lines building (tables building (earlier ++ deliveries_in parsed)) ++ until_line building until))

-- nothing was printed; or the file is a building, and a beginning of what the first lines up to the moment that is said
-- are answered after earlier deliveries was printed, or of what all of them are, the points and the moment
abbrev pub PrintsNoMore : Option Text → List ℕ → List Delivery → List ℕ → Option (List ℕ) → Option (List ℕ) → Type 0
PrintsNoMore said file earlier list old new =
    Keeps old new
    ⊎ ((building : Building) × (until : Option ℤ) × (building_of file ≡ Ok (contents_of building)) × IsUntil building said until
    × (PrintsStart building earlier (lines_until building until (lines_of list)) old new
    ⊎ PrintsAllLines building until earlier list old new))

-- whatever reader a call may open, it has these bytes left
abbrev pub Opens : {R : Type 0} → (R → Type 0) → (R → Option (List ℕ)) → List ℕ → Type 0
Opens {R} may_open left bytes = (reader : R) → may_open reader → left reader ≡ Some bytes
