use Rattle.std.proofs.Common.{rules}
use Rattle.std.proofs.lemmas.List.{take-append-drop}
use Rattle.std.proofs.lemmas.Slice.Eq.{bytes_eq-Decides}
use Rattle.delivery_json.proofs.written_line.after.Goals as goal

pub returns : goal.returns
returns c = search (rules, take-append-drop, bytes_eq-Decides)
