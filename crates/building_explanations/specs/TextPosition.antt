-- The line and the column of a position in a text.
use Rattle.std.specs.Prelude.{ℕ, ◌==◌, Bool, List, count_by, not, bit_and}
use Rattle.std.specs.List.{after_last}

abbrev pub is_line_end : ℕ → Bool
is_line_end byte = byte == 10

-- how many lines end in a text
abbrev pub line_end_count : List ℕ → ℕ
line_end_count text = count_by is_line_end text

-- what stands after its last line end
abbrev pub last_line : List ℕ → List ℕ
last_line text = after_last is_line_end text

-- each byte but those that continue a character begins one
abbrev pub begins_character : ℕ → Bool
begins_character byte = not (bit_and byte 0xC0 == 0x80)

abbrev pub character_count : List ℕ → ℕ
character_count text = count_by begins_character text
