use Rattle.std.proofs.Common.{◌≡◌, ◌<◌, false, length, take, arith, sym, subst, ap, ◌∙◌}
use Rattle.std.proofs.Math.Seq.{take-length}
use Rattle.std.specs.HashMap.{get}
use Rattle.std.specs.Str.{bytes_eq}
use Rattle.store.specs.Change.{with_each, with_row}
use Rattle.store_cache.specs.Free.{AreFreeIn}
use Rattle.store_cache.specs.Known.{Knows}
use Rattle.store_cache.proofs.KnownLemmas.{put_more}
use Rattle.store_cache.proofs.memory.put_rows.Goals as goal

pub loop-item-preserved : goal.loop-item-preserved
loop-item-preserved c = λ rows stuck knows.
    let below : c.loop-item.item-index < length c.args.items.now = omega arith in
    subst (λ t. Knows (get bytes_eq c.put_row.new.known) (AreFreeIn t stuck) (λ panel. false))
    (sym (put_more with_row c.args.items.now c.loop-item.item-index c.item-item.result rows below c.item-item.is))
    (c.put_row.ensures (with_each with_row (take c.loop-item.item-index c.args.items.now) rows) stuck (c.loop-item.invariant rows stuck knows))

pub returns : goal.returns
returns c = λ rows stuck knows.
    let whole : c.loop-item.item-index ≡ length c.args.items.now = omega arith in
    subst (λ l. Knows (get bytes_eq c.loop-item.known) (AreFreeIn (with_each with_row l rows) stuck) (λ panel. false))
    (ap (λ n. take n c.args.items.now) whole ∙ take-length c.args.items.now) (c.loop-item.invariant rows stuck knows)
