use Rattle.std.proofs.Common.{◌∙◌, ℕ, List, [], ◌∷◌, ap, rules, subst, sym}
use Rattle.std.specs.Io.Buffered.{reader_remaining}
use Rattle.desk_cli.specs.ListLines.{Collects, TakesLine}
use Rattle.desk_cli.specs.Replay.{is_past_until}
use Rattle.desk_cli.proofs.CollectLemmas.{Collecting-end, Collecting-line, Collecting-past, Collecting-start}
use Rattle.desk_cli.proofs.list_reading.read_deliveries.Goals as goal

pub loop-number-init : goal.loop-number-init
loop-number-init g c = λ bytes left. Collecting-start _ c.args.until bytes _ _ left (search rules)

pub returns-then-not-is_line : goal.returns-then-not-is_line
returns-then-not-is_line g c = λ bytes left.
    Collecting-end _ c.args.until bytes c.read_line.new.line.items _ (reader_remaining g.D.Read.remaining c.read_line.new.reader) _
    (c.loop-number.invariant bytes left)
    (λ rest before. subst (λ is_line. TakesLine rest is_line c.read_line.new.line.items
    (reader_remaining g.D.Read.remaining c.read_line.new.reader)) c.if-not-is_line.true (c.in_ok-is_line.ensures rest before))

pub loop-number-preserved : goal.loop-number-preserved
loop-number-preserved g c = λ bytes left.
    let line : List ℕ = c.read_line.new.line.items in
    Collecting-line _ c.args.until bytes line _ _ _ _ (c.loop-number.invariant bytes left)
    (λ rest before. subst (λ is_line. TakesLine rest is_line line (reader_remaining g.D.Read.remaining c.read_line.new.reader))
    c.if-not-is_line.false (c.in_ok-is_line.ensures rest before))
    (ap (is_past_until c.args.building.now c.args.until) (sym c.as_slice.ensures.value) ∙ (sym c.in_ok-is_past.ensures ∙ c.if-is_past.false))
    (subst (λ (read : List ℕ). Collects c.args.building.now (read ∷ []) c.loop-number.deliveries.items c.collect_line.new.deliveries.items)
    c.as_slice-in-loop-number.ensures.value c.in_ok-collect_line.ensures)

pub returns-then-is_past : goal.returns-then-is_past
returns-then-is_past g c = λ bytes left.
    let line : List ℕ = c.read_line.new.line.items in
    Collecting-past _ c.args.until bytes line _ (reader_remaining g.D.Read.remaining c.read_line.new.reader) _
    (c.loop-number.invariant bytes left)
    (λ rest before. subst (λ is_line. TakesLine rest is_line line (reader_remaining g.D.Read.remaining c.read_line.new.reader))
    c.if-not-is_line.false (c.in_ok-is_line.ensures rest before))
    (ap (is_past_until c.args.building.now c.args.until) (sym c.as_slice.ensures.value) ∙ (sym c.in_ok-is_past.ensures ∙ c.if-is_past.true))
