-- The head of a request.
use Rattle.std.specs.Prelude.{◌≤◌, ℕ, List, length}
use Rattle.httparse.specs.Grammar.{ReadsRequest, RequestHead, print_request}

-- the bytes are that head and then the rest, and the head has at most 8,192 bytes and 64 fields
pub record IsHead (bytes : List ℕ) (head : RequestHead) (rest : List ℕ) : Type 0 where
  pub reads : ReadsRequest bytes head rest
  pub short : length (print_request head) ≤ 8_192
  pub few : length head.fields ≤ 64

-- no beginning of the bytes is a head
abbrev pub HasNoHead : List ℕ → Type 0
HasNoHead bytes = (head : RequestHead) (rest : List ℕ) → ¬ (IsHead bytes head rest)
