-- Where a list ends by what its user says.
use Rattle.std.specs.Prelude.{◌≡◌, ℤ, ◌∷◌, ◌++◌, [], List, ℕ, Option, Some, None, codes, option_map}
use Rattle.std.specs.Borrow.{Bor}
use Rattle.building.specs.Building.{Building}
use Rattle.cli_common.specs.declared.run_fault.RunFault.{RunFault}
use Rattle.cli_common.specs.declared.run_fault.RunFault.TheVariants.{NotMoment, NotShown}
use Rattle.desk_why.specs.AuthorText.{moment_text}
use Rattle.moments.specs.Meaning.{Means}
use Rattle.moments.specs.Moment.{SpellsMoment}
use Rattle.moments.specs.declared.moment.Moment.{Moment}
use Rattle.points.specs.Texts.{Text}

-- what was said, if anything was
abbrev pub said_in : Option (Bor Text) → Option Text
said_in said = option_map (λ text. text.now) said

-- the moment that is meant on the building's clock, where one is said
abbrev pub IsUntil : Building → Option Text → Option ℤ → Type 0
IsUntil building None until = until ≡ None
IsUntil building (Some text) None = ⊥
IsUntil building (Some text) (Some at) = (moment : Moment) × SpellsMoment text moment × Means building.zone moment at

-- the text says no moment, or one that the clock does not show
abbrev pub RefusesUntil : Building → Option Text → RunFault → Type 0
RefusesUntil building (Some text) (NotMoment said) = (moment : Moment) → SpellsMoment text moment → ⊥
RefusesUntil building (Some text) (NotShown said) =
    (moment : Moment) × SpellsMoment text moment × ((at : ℤ) → Means building.zone moment at → ⊥)
RefusesUntil building said fault = ⊥

-- which moment of the building's clock that was
abbrev pub until_line : Building → Option ℤ → List ℕ
until_line building None = []
until_line building (Some at) = codes "until " ++ (moment_text building at ++ 10 ∷ [])
