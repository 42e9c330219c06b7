-- The text that bytes are, and the name that a text is.
use Rattle.std.specs.Prelude.{ℕ, List, Option}
use Rattle.std.specs.Str.{is_utf8}
use Rattle.points.specs.Name.{is_name}
use Rattle.points.specs.Steps.{where_holds}

-- a text, as its bytes
abbrev pub Text : Type 0
Text = List ℕ

-- the bytes, where they are UTF-8
abbrev pub text_of : List ℕ → Option Text
text_of bytes = where_holds (is_utf8 bytes) bytes

-- the text, where it is a name
abbrev pub name_of : Text → Option Text
name_of text = where_holds (is_name text) text
