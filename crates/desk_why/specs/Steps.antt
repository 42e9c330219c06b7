-- What the code does to the table of authors, a step at a time.
use Rattle.std.specs.Prelude.{◌≡◌, ℕ, ℤ, Bool, if◌then◌else◌, List, fold, Option, None}
use Rattle.building.specs.Building.{Building}
use Rattle.desk_settling.specs.Settled.{Now}
use Rattle.desk_settling.specs.Turns.{now_at}
use Rattle.points.specs.declared.numbered_row.NumberedRow.{NumberedRow}
use Rattle.points.specs.PriorityArray.{Places}
use Rattle.points.specs.Texts.{Text}
use Rattle.desk_why.specs.declared.author.Held.{Held}
use Rattle.desk_why.specs.declared.author.Settling.{Settling}
use Rattle.desk_why.specs.declared.author.Settling.TheVariants as at
use Rattle.desk_why.specs.declared.authors.Authors.{Authors}
use Rattle.desk_why.specs.declared.settling.Today.{Today}
use Rattle.desk_why.specs.Authors.{held_after_command, held_before}
use Rattle.desk_why.specs.AuthorsTable.{held_in}

-- each place has what a function makes of what it had
abbrev pub Becomes : (Text → ℕ → Option Held → Option Held) → Authors → Authors → Type 0
Becomes after old new = (point : Text) (priority : ℕ) → held_in new point priority ≡ after point priority (held_in old point priority)

-- this is put in the places that pass a test, and no other place changes
abbrev pub put_where : (Text → ℕ → Bool) → Option Held → Text → ℕ → Option Held → Option Held
put_where test put point priority held = if test point priority then put else held

-- the points that pass a test have begun, with what their arrays hold; no other point holds anything
abbrev pub HaveBegun : (Text → Places) → (Text → Bool) → Authors → Type 0
HaveBegun places test authors = (point : Text) (priority : ℕ)
    → held_in authors point priority ≡ (if test point then held_before (places point) priority else None)

-- what a place holds after the commands of a run, which were acted on after this last tick
abbrev pub held_after_run : Building → Option ℤ → Text → List NumberedRow → Text → ℕ → Option Held → Option Held
held_after_run building after panel run point priority held = fold
    (λ held (entry : NumberedRow). held_after_command building after panel entry.number entry.row.content point priority held) held run

-- what schedules' values depend on
abbrev pub today_of : Today → Now
today_of today = now_at today.calendars.items today.local

-- the moment at which schedules settle
abbrev pub moment_of : Settling → ℤ
moment_of (at.Tick moment) = moment
moment_of (at.Import last) = last
