-- The renamings among the words.
use Rattle.std.specs.Prelude.{◌≡◌, ◌||◌, ◌++◌, ◌∷◌, Bool, true, false, is_some, List, map}
use Rattle.std.specs.Bool.{IsTrue}
use Rattle.std.specs.List.{All, AllZip, list_any}
use Rattle.std.specs.Str.{bytes_eq}
use Rattle.desk_adopt.specs.declared.renaming.Renaming.{Renaming}
use Rattle.building.specs.Building.{Building}
use Rattle.building.specs.Roster.{are_distinct}
use Rattle.points.specs.Rights.{point_named}
use Rattle.points.specs.Texts.{Text}
use Rattle.desk_adopt.specs.Findings.{has_calendar, has_panel, has_schedule}

-- a point, a panel, a schedule or a calendar of the building has the name
abbrev pub has_name : Building → Text → Bool
has_name building name = is_some (point_named building.points name) || (has_panel building name
    || (has_schedule building name || has_calendar building name))

-- `OLD=NEW_NAME`, with the byte of `=` between them
abbrev pub IsRenaming : Text → Renaming → Type 0
IsRenaming text it = text ≡ it.old ++ 61 ∷ it.new

-- one that renames no name which an earlier one renames, to no name which an earlier one has, but to one of the building's
pub record JoinsThem (building : Building) (earlier : List Renaming) (it : Renaming) : Type 0 where
  pub old : list_any (λ (one : Renaming). bytes_eq one.old it.old) earlier ≡ false
  pub new : list_any (λ (one : Renaming). bytes_eq one.new it.new) earlier ≡ false
  pub known : IsTrue (has_name building it.new)

-- the renamings of texts, in their order: no name is renamed twice, none is the name of two, and each is the building's
pub record AreRenamings (building : Building) (texts : List Text) (renamings : List Renaming) : Type 0 where
  pub read : AllZip IsRenaming texts renamings
  pub olds : are_distinct (map (λ it. it.old) renamings) ≡ true
  pub news : are_distinct (map (λ it. it.new) renamings) ≡ true
  pub known : All (λ it. IsTrue (has_name building it.new)) renamings
