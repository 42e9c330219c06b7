use Rattle.std.proofs.Common.{◌≡◌, ℕ, List, Some}
use Rattle.std.specs.Io.Buffered.{reader_remaining}
use Rattle.deliveries.specs.declared.delivery.Delivery.{Delivery}
use Rattle.deliveries.specs.Delivered.{Holds}
use Rattle.desk_cli.proofs.ReplayLemmas.{Progress}
use Rattle.desk_cli.proofs.replay_run.print_replies.Given as goal

abbrev pub invariant-loop-number : goal.invariant-loop-number
invariant-loop-number g l = record {
  building : l.desk.building ≡ l.initial.desk.building;
  honest : (g.S.Store.standing l.desk.store).is_honest → (g.S.Store.standing l.initial.desk.store).is_honest;
  so_far : (bytes : List ℕ) (E : List Delivery) → (g.S.Store.standing l.desk.store).is_honest
      → reader_remaining g.D.Read.remaining l.initial.reader ≡ Some bytes
      → Holds l.initial.desk.building E (g.S.Store.standing l.initial.desk.store)
      → Progress l.initial.desk.building l.until E bytes (reader_remaining g.D.Read.remaining l.reader) (g.W.Write.contents l.initial.out)
      (g.W.Write.contents l.out)
      (g.S.Store.standing l.desk.store).content;
}
