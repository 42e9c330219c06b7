use Rattle.cli_record.proofs.ReplayLemmas.{replayed-none, torn-none}
use Rattle.std.proofs.Common.{refl}
use Rattle.cli_record.proofs.replayed.replay_found.Goals as goal

pub returns-in-None-clause-replayed : goal.returns-in-None-clause-replayed
returns-in-None-clause-replayed g c = λ earlier bytes found honest holds.
    replayed-none c.args.desk.now.building earlier bytes _ _ (rw c.in-None.is at found) refl holds

pub returns-in-None-clause-torn : goal.returns-in-None-clause-torn
returns-in-None-clause-torn g c = λ bytes found. torn-none bytes (rw c.in-None.is at found)
