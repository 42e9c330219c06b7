-- Which run of parked commands the plan for a command or a skip has to read.
use Rattle.std.specs.Prelude.{ℕ, ◌+◌, ◌&&◌, nat_lt, nat_le, ◌==◌, if◌then◌else◌, Option, Some, None}
use Rattle.window.specs.declared.run_needed.RunNeeded.{RunNeeded}
use Rattle.window.specs.Window.{window}

-- a command at the next number can set free what follows it
abbrev pub run_behind : ℕ → ℕ → Option RunNeeded
run_behind next number = if number == next then Some (record { from = next + 1; upto = next + 1 }) else None

-- an accepted skip sets free what stands below it, and what follows there
abbrev pub run_over : ℕ → ℕ → Option RunNeeded
run_over next upto = if nat_lt next upto && nat_le upto (next + window) then Some (record { from = next; upto = upto }) else None
