-- The exit status of the program.
use Rattle.std.specs.Prelude.{ℕ}
use Rattle.cli_common.specs.declared.status.Status.{Status}
use Rattle.cli_common.specs.declared.status.Status.TheVariants.{Done, Fault, Words, Store}

abbrev pub code_of : Status → ℕ
code_of Done = 0
code_of Fault = 1
code_of Words = 2
code_of Store = 3
