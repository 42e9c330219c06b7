-- Texts that stay one line.
use Rattle.std.specs.Prelude.{◌≡◌, ℕ, Bool, true, List, encode_utf8_all, not}
use Rattle.std.specs.Char.{is_control}
use Rattle.std.specs.List.{list_all}

abbrev pub is_shown : ℕ → Bool
is_shown character = not (is_control character)

-- the text is spelled of characters none of which is a control character
pub record IsOneLine (text : List ℕ) : Type 0 where
  pub characters : List ℕ
  pub spelled : encode_utf8_all characters ≡ text
  pub are_shown : list_all is_shown characters ≡ true
