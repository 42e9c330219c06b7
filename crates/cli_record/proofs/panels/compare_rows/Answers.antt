use Rattle.std.proofs.Common.{◌≡◌, ◌-◌, ◌++◌, ◌∙◌, ap, arith}
use Rattle.std.specs.List.{flat_map, range_with_len}
use Rattle.cli_record.specs.Differences.{of_command}
use Rattle.cli_record.proofs.ComparesLemmas.{compares-as, compares-then}
use Rattle.cli_record.proofs.WalkLemmas.{number-more}
use Rattle.cli_record.proofs.panels.compare_rows.Goals as goal

pub loop-number-preserved : goal.loop-number-preserved
loop-number-preserved g c =
    let panel = c.args.panel.now in
    let held = (g.S.Store.standing c.args.store.now).content.tables.row panel in
    let recorded = (g.T.Store.standing c.args.other.now).content.tables.row panel in
    compares-then c.loop-number.invariant c.in_ok-compare_row.ensures (λ so_far more.
    number-more (of_command panel held recorded) c.args.found.now.items c.loop-number.found.items c.compare_row.new.found.items
    c.args.from c.loop-number.number (omega (arith, c.loop-number.auto.number)) so_far more)

pub returns : goal.returns
returns g c =
    let panel = c.args.panel.now in
    let held = (g.S.Store.standing c.args.store.now).content.tables.row panel in
    let recorded = (g.T.Store.standing c.args.other.now).content.tables.row panel in
    let last : c.loop-number.number - c.args.from ≡ c.args.end - c.args.from =
    omega (arith, c.max-number-end.ensures, c.loop-number.auto.number, c.loop-number.auto.number-end, c.loop-number-test.false) in
    compares-as c.loop-number.invariant (λ found. found
    ∙ ap (λ n. c.args.found.now.items ++ flat_map (of_command panel held recorded) (range_with_len c.args.from n)) last)
