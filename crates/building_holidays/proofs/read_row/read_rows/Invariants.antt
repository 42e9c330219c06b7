use Rattle.std.proofs.Common.{◌≡◌, ◌+◌, ◌++◌, drop, map}
use Rattle.csv.specs.Records.{fields_of}
use Rattle.points.specs.FaultSteps.{result_map}
use Rattle.building_holidays.specs.Meanings.{all_ok, meanings}
use Rattle.building_holidays.proofs.read_row.read_rows.Given as goal

abbrev pub invariant-loop-index : goal.invariant-loop-index
invariant-loop-index g l =
    let read = g.R.ReadRow.meaning l.reader in
    all_ok (meanings read l.first (map fields_of l.records))
    ≡ result_map (λ rest. l.rows.items ++ rest) (all_ok (meanings read (l.index + l.first) (map fields_of (drop l.index l.records))))
