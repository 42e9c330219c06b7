-- The verdict on a command (applies, parked, repeat, differs, skipped, too far, forgotten) or on a skip.
use Rattle.std.specs.Prelude.{ℕ, ◌+◌, ◌-◌, nat_lt, ◌==◌, if◌then◌else◌, Option, Some, None}
use Rattle.points.specs.declared.content.Content.{Content}
use Rattle.points.specs.declared.command_row.CommandRow.{CommandRow}
use Rattle.points.specs.ContentEq.{content_eq}
use Rattle.window.specs.declared.verdict.Verdict.{Verdict}
use Rattle.window.specs.declared.verdict.Verdict.TheVariants.{Applies, Parked, Repeat, Skipped, Differs, TooFar, SkipDone, Forgotten}
use Rattle.window.specs.Taken.{Ask, Command, Skip, Taken, front}
use Rattle.window.specs.Window.{window, remembered}

-- the verdict on a number of which it is known what was accepted under it: a content, or none
abbrev pub verdict_by : Option CommandRow → Taken → ℕ → Content → Verdict
verdict_by (Some row) earlier number content = if content_eq row.content content then Repeat row.state else Differs
verdict_by None earlier number content =
    if nat_lt number (front earlier) then Skipped
    else (if number == front earlier then Applies
    else (if nat_lt number (front earlier + window) then Parked else TooFar))

-- the verdict on an ask, by the row that is kept under its number
abbrev pub verdict_of : Taken → Ask → Option CommandRow → Verdict
verdict_of earlier (Command number content) asked =
    if nat_lt number (front earlier - remembered) then Forgotten else verdict_by asked earlier number content
verdict_of earlier (Skip upto) asked = if nat_lt (front earlier + window) upto then TooFar else SkipDone
