-- The hints at a building, as a text.
use Rattle.std.specs.Prelude.{◌≡◌, ℕ, List, [], ◌∷◌, ◌++◌, codes, Option, Some, None, Ok}
use Rattle.std.specs.Io.KnownBytes.{Appends}
use Rattle.std.specs.List.{flat_map}
use Rattle.points.specs.Texts.{Text}
use Rattle.building.specs.BuildingFile.{Contents, building_of}
use Rattle.building_hints.specs.ListHints.{list_text}
use Rattle.building_hints.specs.HintLines.{calendar_hints, numbered, pair_hints, panel_hints, schedule_hints}

-- the lines of all hints: those at calendars, panels, schedules and pairs of schedules, each in file order
abbrev pub hint_lines : Contents → Text
hint_lines contents = numbered (calendar_hints contents.schedules) 0 contents.calendars ++ (flat_map panel_hints contents.panels
    ++ (flat_map schedule_hints contents.schedules ++ pair_hints contents.schedules))

-- the lines, or the one line that there is none
abbrev pub or_none : Text → Text
or_none [] = codes "no hints\n"
or_none (byte ∷ text) = byte ∷ text

abbrev pub hints_text : Contents → Text
hints_text contents = or_none (hint_lines contents)

-- the text of a building's hints, and behind it that of the hints at a list, where there is one whose bytes are known
abbrev pub IsText : Contents → Option (Option (List ℕ)) → Text → Type 0
IsText contents None text = text ≡ hints_text contents
IsText contents (Some None) text = Unit {0}
IsText contents (Some (Some bytes)) text = text ≡ hints_text contents ++ list_text contents bytes

-- the file names a building, and its hints and those at the list were printed
pub record Hints (bytes : List ℕ) (list : Option (Option (List ℕ))) (old new : Option (List ℕ)) : Type 0 where
  pub contents : Contents
  pub contents_are : building_of bytes ≡ Ok contents
  pub text : Text
  pub text_is : IsText contents list text
  pub printed : Appends old new text
