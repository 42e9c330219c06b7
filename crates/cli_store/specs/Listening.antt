-- What a server prints once it takes connections.
use Rattle.std.specs.Prelude.{ℕ, List, ◌++◌, codes}

-- the line of its address
abbrev pub listening_line : List ℕ → List ℕ
listening_line address = codes "listening " ++ (address ++ codes "\n")
