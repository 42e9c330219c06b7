use Rattle.std.proofs.Common.{◌≡◌, ◌∙◌, ℕ, ℤ, true, false, List, Option, subst, sym, ap, rules}
use Rattle.building.specs.Building.{Building}
use Rattle.deliveries.specs.Tables.{tables}
use Rattle.store.specs.Standing.{sound}
use Rattle.desk_cli.specs.ListLines.{TakesLine}
use Rattle.desk_cli.specs.Replay.{is_past_until}
use Rattle.desk_cli.proofs.ReplayLemmas.{Progress-end, Progress-line, Progress-past, Progress-start, Prints-same}
use Rattle.desk_cli.proofs.StopLemmas.{Progress-stops, Progress-stops-at, first-same}
use Rattle.std.specs.Io.Buffered.{reader_remaining}
use Rattle.desk_cli.proofs.replay_run.print_replies.Goals as goal

is_past-same : (read loop first : Building) (until : Option ℤ) (slice line : List ℕ) → read ≡ loop → loop ≡ first → slice ≡ line
    → is_past_until read until slice ≡ is_past_until first until line
is_past-same read loop first until slice line here still text =
    ap (λ (b : Building). is_past_until b until slice) (here ∙ still) ∙ ap (is_past_until first until) text

pub loop-number-init : goal.loop-number-init
loop-number-init g c = record {
  building = search rules;
  honest = λ honest. honest;
  so_far = λ bytes E honest left holds. Progress-start _ c.args.until E bytes _ _ _ left holds;
}

pub returns-then-not-is_line-clause-prints : goal.returns-then-not-is_line-clause-prints
returns-then-not-is_line-clause-prints g c = λ bytes E honest left holds.
    Progress-end _ c.args.until E bytes c.read_line.new.line.items _ (reader_remaining g.D.Read.remaining c.read_line.new.reader) _ _ _
    (c.loop-number.invariant.so_far bytes E honest left holds)
    (λ rest before. subst (λ is_line. TakesLine rest is_line c.read_line.new.line.items
    (reader_remaining g.D.Read.remaining c.read_line.new.reader)) c.if-not-is_line.true (c.in_ok-is_line.ensures rest before))

pub returns-then-not-is_line-clause-no_more : goal.returns-then-not-is_line-clause-no_more
returns-then-not-is_line-clause-no_more g c =
    λ bytes E honest left holds. Progress-stops _ c.args.until E bytes _ _ _ _ (c.loop-number.invariant.so_far bytes E honest left holds)

pub returns-in_err-is_line-clause-no_more : goal.returns-in_err-is_line-clause-no_more
returns-in_err-is_line-clause-no_more g c =
    λ bytes E honest left holds. Progress-stops _ c.args.until E bytes _ _ _ _ (c.loop-number.invariant.so_far bytes E honest left holds)

pub returns-clause-no_more : goal.returns-clause-no_more
returns-clause-no_more g c =
    λ bytes E honest left holds. Progress-stops _ c.args.until E bytes _ _ _ _ (c.loop-number.invariant.so_far bytes E honest left holds)

pub returns-in_err-print_reply_and_flush-clause-no_more : goal.returns-in_err-print_reply_and_flush-clause-no_more
returns-in_err-print_reply_and_flush-clause-no_more g c = λ bytes E honest left holds.
    let line : List ℕ = c.read_line.new.line.items in
    let within : is_past_until c.args.desk.now.building c.args.until line ≡ false =
    sym (is_past-same c.building.result.now c.loop-number.desk.building c.args.desk.now.building c.args.until c.as_slice.result.now line
    c.building.ensures c.loop-number.invariant.building c.as_slice.ensures.value)
    ∙ (sym c.in_ok-is_past.ensures ∙ c.if-is_past.false) in
    Progress-stops-at c.args.desk.now.building c.args.until E bytes line _ _ _ _ _ _
    (c.loop-number.invariant.so_far bytes E (c.print_reply_and_flush.ensures.honest honest) left holds)
    (λ rest before. subst (λ is_line. TakesLine rest is_line line (reader_remaining g.D.Read.remaining c.read_line.new.reader))
    c.if-not-is_line.false (c.in_ok-is_line.ensures rest before))
    within
    (λ F now. first-same c.loop-number.desk.building c.args.desk.now.building F c.as_slice-in-loop-number.result.now line _ _
    c.loop-number.invariant.building c.as_slice-in-loop-number.ensures.value
    (c.print_reply_and_flush.ensures.no_more F honest
    (now ∙ ap (λ (b : Building). sound (tables b F)) (sym c.loop-number.invariant.building))))

pub loop-number-preserved : goal.loop-number-preserved
loop-number-preserved g c = record {
  building = c.print_reply_and_flush.ensures.building ∙ c.loop-number.invariant.building;
  honest = λ honest. c.loop-number.invariant.honest (c.print_reply_and_flush.ensures.honest honest);
  so_far = λ bytes E honest left holds.
      let line : List ℕ = c.read_line.new.line.items in
      let within : is_past_until c.args.desk.now.building c.args.until line ≡ false =
      sym (is_past-same c.building.result.now c.loop-number.desk.building c.args.desk.now.building c.args.until c.as_slice.result.now line
      c.building.ensures c.loop-number.invariant.building c.as_slice.ensures.value)
      ∙ (sym c.in_ok-is_past.ensures ∙ c.if-is_past.false) in
      Progress-line c.args.desk.now.building c.args.until E bytes line _ _ _ _ _ _ _
      (c.loop-number.invariant.so_far bytes E (c.print_reply_and_flush.ensures.honest honest) left holds)
      (λ rest before. subst (λ is_line. TakesLine rest is_line line (reader_remaining g.D.Read.remaining c.read_line.new.reader))
      c.if-not-is_line.false (c.in_ok-is_line.ensures rest before))
      within
      (λ F now. Prints-same c.loop-number.desk.building c.args.desk.now.building F c.as_slice-in-loop-number.result.now line _ _ _
      c.loop-number.invariant.building c.as_slice-in-loop-number.ensures.value
      (c.in_ok-print_reply_and_flush.ensures.prints F honest
      (now ∙ ap (λ (b : Building). sound (tables b F)) (sym c.loop-number.invariant.building))));
}

pub returns-then-is_past-clause-prints : goal.returns-then-is_past-clause-prints
returns-then-is_past-clause-prints g c = λ bytes E honest left holds.
    let line : List ℕ = c.read_line.new.line.items in
    let past : is_past_until c.args.desk.now.building c.args.until line ≡ true =
    sym (is_past-same c.building.result.now c.loop-number.desk.building c.args.desk.now.building c.args.until c.as_slice.result.now line
    c.building.ensures c.loop-number.invariant.building c.as_slice.ensures.value)
    ∙ (sym c.in_ok-is_past.ensures ∙ c.if-is_past.true) in
    Progress-past _ c.args.until E bytes line _ (reader_remaining g.D.Read.remaining c.read_line.new.reader) _ _ _
    (c.loop-number.invariant.so_far bytes E honest left holds)
    (λ rest before. subst (λ is_line. TakesLine rest is_line line (reader_remaining g.D.Read.remaining c.read_line.new.reader))
    c.if-not-is_line.false (c.in_ok-is_line.ensures rest before)) past

pub returns-then-is_past-clause-no_more : goal.returns-then-is_past-clause-no_more
returns-then-is_past-clause-no_more g c =
    λ bytes E honest left holds. Progress-stops _ c.args.until E bytes _ _ _ _ (c.loop-number.invariant.so_far bytes E honest left holds)

pub returns-in_err-is_past-clause-no_more : goal.returns-in_err-is_past-clause-no_more
returns-in_err-is_past-clause-no_more g c =
    λ bytes E honest left holds. Progress-stops _ c.args.until E bytes _ _ _ _ (c.loop-number.invariant.so_far bytes E honest left holds)
