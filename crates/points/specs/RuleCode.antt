-- The codes X1 to X6 of the rules that refuse a command.
use Rattle.std.specs.Prelude.{ℕ, List, codes}
use Rattle.points.specs.declared.rule.Rule.{Rule}
use Rattle.points.specs.declared.rule.Rule.TheVariants.{NoSuchPoint, NotGranted, NoSuchPriority, ReservedPriority, PriorityNotGranted, OutsideKind}

-- how a rule is printed
abbrev pub code_of : Rule → List ℕ
code_of NoSuchPoint = codes "X1"
code_of NotGranted = codes "X2"
code_of NoSuchPriority = codes "X3"
code_of ReservedPriority = codes "X4"
code_of PriorityNotGranted = codes "X5"
code_of OutsideKind = codes "X6"
