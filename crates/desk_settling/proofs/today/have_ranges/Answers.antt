use Rattle.std.proofs.Common.{subst, arith}
use Rattle.std.specs.List.{All}
use Rattle.std.proofs.lemmas.List.{take_all}
use Rattle.std.proofs.lemmas.List.Elements.{All-more}
use Rattle.dates.specs.Entry.{IsEntry}
use Rattle.store.specs.declared.change.ImportedEntry.{ImportedEntry}
use Rattle.desk_settling.proofs.today.have_ranges.Goals as goal

abbrev HasRange : ImportedEntry → Type 0
HasRange item = IsEntry item.entry

pub loop-item-preserved : goal.loop-item-preserved
loop-item-preserved c =
    All-more HasRange c.args.items.now c.loop-item.item-index c.item-item.result (omega (arith, c.loop-item-test.true))
    c.loop-item.invariant (subst HasRange c.item-item.is c.lies_in_range.ensures)

pub returns : goal.returns
returns c =
    subst (All HasRange) (take_all c.loop-item.item-index c.args.items.now (omega (arith, c.loop-item-test.false))) c.loop-item.invariant
