use Rattle.std.proofs.Common.{◌≡◌, ◌+◌, ◌++◌, ◌≤◌, drop, vec_len}
use Rattle.window.specs.Drain.{contents_of, end_of}
use Rattle.window.proofs.draining.drained.Given as goal

abbrev pub invariant-loop-entry : goal.invariant-loop-entry
invariant-loop-entry l = record {
  contents : l.contents.items ++ contents_of (drop l.entry-index l.run) ≡ l.initial.contents.items ++ contents_of l.run;
  end : end_of l.next (drop l.entry-index l.run) ≡ end_of l.upto l.run;
  bound : l.next ≤ l.upto + vec_len l.contents;
}
