use Rattle.std.proofs.Common.{◌≡◌, ◌++◌, take, string_bytes}
use Rattle.std.specs.List.{flat_map}
use Rattle.delivery_json.specs.DeliveryText.{row_text}
use Rattle.delivery_json.proofs.delivery_text.push_rows.Given as goal

-- what was written, with the rows so far
abbrev pub invariant-loop-row : goal.invariant-loop-row
invariant-loop-row l =
    string_bytes l.line ≡ string_bytes l.initial.line ++ flat_map (row_text l.building) (take l.row-index l.rows)
