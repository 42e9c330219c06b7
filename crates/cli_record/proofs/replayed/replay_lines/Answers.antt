use Rattle.std.proofs.Common.{◌∙◌, ℕ, List, ap, length, refl, subst, sym}
use Rattle.std.specs.Io.Buffered.{reader_remaining}
use Rattle.cli_record.specs.Replayed.{LeavesTorn, TakesWhole}
use Rattle.cli_record.proofs.ReplayLemmas.{Passing-line, Passing-start, Passing-torn, Replaying-end, Replaying-line, Replaying-start}
use Rattle.cli_record.proofs.replayed.replay_lines.Goals as goal

pub returns-then-not-is_whole-clause-replayed : goal.returns-then-not-is_whole-clause-replayed
returns-then-not-is_whole-clause-replayed g c = λ earlier bytes left honest holds.
    Replaying-end c.args.desk.now.building earlier bytes _ _ _ (c.loop-number.invariant.2 earlier bytes left honest holds)
    (λ rest before. (subst (λ is_whole. TakesWhole rest is_whole c.read_whole_line.new.line.items
    (reader_remaining g.D.Read.remaining c.read_whole_line.new.reader)) c.if-not-is_whole.true (c.in_ok-is_whole.ensures rest before)).0)

pub returns-then-not-is_whole-clause-torn : goal.returns-then-not-is_whole-clause-torn
returns-then-not-is_whole-clause-torn g c = λ bytes left.
    subst (λ n. LeavesTorn bytes n) (sym (ap length c.as_slice-torn.ensures.value))
    (Passing-torn bytes _ _ (c.loop-number.invariant.1 bytes left)
    (λ rest before. subst (λ is_whole. TakesWhole rest is_whole c.read_whole_line.new.line.items
    (reader_remaining g.D.Read.remaining c.read_whole_line.new.reader)) c.if-not-is_whole.true (c.in_ok-is_whole.ensures rest before)))

pub loop-number-init : goal.loop-number-init
loop-number-init g c = (
  refl,
  λ bytes left. Passing-start bytes _ left,
  λ earlier bytes left honest holds. Replaying-start c.args.desk.now.building earlier bytes _ _ _ left refl holds,
)

pub loop-number-preserved : goal.loop-number-preserved
loop-number-preserved g c =
    let line : List ℕ = c.read_whole_line.new.line.items in
    let same = c.loop-number.invariant.0 in
    let after = reader_remaining g.D.Read.remaining c.read_whole_line.new.reader in (
      c.in_ok-hold_back.ensures.building ∙ same,
      λ bytes left.
          Passing-line bytes line _ after (c.loop-number.invariant.1 bytes left)
          (λ rest before. subst (λ is_whole. TakesWhole rest is_whole line after) c.if-not-is_whole.false (c.in_ok-is_whole.ensures rest before)),
      λ earlier bytes left honest holds.
          let one = rw (c.as_slice.ensures.value, c.building.ensures, same) at c.in_ok-next.ensures in
          Replaying-line c.args.desk.now.building earlier bytes line _ after _ _ _ _
          (c.loop-number.invariant.2 earlier bytes left (c.in_ok-hold_back.ensures.honest honest) holds)
          (λ rest before. subst (λ is_whole. TakesWhole rest is_whole line after) c.if-not-is_whole.false (c.in_ok-is_whole.ensures rest before))
          (λ lines so_far. (rw same at c.in_ok-hold_back.ensures.makes earlier lines line honest) one so_far),
    )
