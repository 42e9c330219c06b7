-- The message for each fault of a name: empty, too long, or with another character.
use Rattle.std.specs.Prelude.{ℕ, List, codes}
use Rattle.points.specs.declared.name.NameFault.{NameFault}
use Rattle.points.specs.declared.name.NameFault.TheVariants.{Empty, TooLong, OtherCharacter}

-- the text for a reader of a refused name
abbrev pub text_of : NameFault → List ℕ
text_of Empty = codes "a name has at least one character"
text_of TooLong = codes "a name has at most 32 characters"
text_of OtherCharacter = codes "a name has letters, digits, `-`, `_` and `.` alone"
