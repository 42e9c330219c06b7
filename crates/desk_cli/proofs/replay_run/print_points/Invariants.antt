use Rattle.std.proofs.Common.{◌≡◌, length, take}
use Rattle.std.specs.List.{flat_map}
use Rattle.std.specs.Io.KnownBytes.{Appends}
use Rattle.desk_cli.specs.Replay.{line_of_point}
use Rattle.desk_cli.proofs.replay_run.print_points.Given as goal

abbrev pub invariant-loop-index : goal.invariant-loop-index
invariant-loop-index g l =
    let was = g.S.Store.standing l.initial.desk.store in
    let now = g.S.Store.standing l.desk.store in
    record {
      honest : now.is_honest → was.is_honest;
      same : now.is_honest → now.content ≡ was.content;
      building : l.desk.building ≡ l.initial.desk.building;
      count : l.count ≡ length l.initial.desk.building.points;
      printed : now.is_honest → Appends (g.W.Write.contents l.initial.out) (g.W.Write.contents l.out)
          (flat_map (line_of_point l.initial.desk.building was.content.tables) (take l.index l.initial.desk.building.points));
    }
