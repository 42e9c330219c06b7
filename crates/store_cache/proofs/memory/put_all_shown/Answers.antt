use Rattle.std.proofs.Common.{◌≡◌, ◌<◌, length, take, arith, sym, subst, ap, ◌∙◌}
use Rattle.std.proofs.Math.Seq.{take-length}
use Rattle.std.specs.HashMap.{get}
use Rattle.std.specs.Str.{bytes_eq}
use Rattle.store.specs.Change.{with_each, with_shown}
use Rattle.store_cache.specs.Known.{Has, Knows}
use Rattle.store_cache.proofs.KnownLemmas.{put_more}
use Rattle.store_cache.proofs.memory.put_all_shown.Goals as goal

pub loop-item-preserved : goal.loop-item-preserved
loop-item-preserved c = λ table stuck knows.
    let below : c.loop-item.item-index < length c.args.items.now = omega arith in
    subst (λ t. Knows (get bytes_eq c.put_shown.new.known) (Has t) stuck)
    (sym (put_more with_shown c.args.items.now c.loop-item.item-index c.item-item.result table below c.item-item.is))
    (c.put_shown.ensures (with_each with_shown (take c.loop-item.item-index c.args.items.now) table) stuck (c.loop-item.invariant table stuck knows))

pub returns : goal.returns
returns c = λ table stuck knows.
    let whole : c.loop-item.item-index ≡ length c.args.items.now = omega arith in
    subst (λ l. Knows (get bytes_eq c.loop-item.known) (Has (with_each with_shown l table)) stuck)
    (ap (λ n. take n c.args.items.now) whole ∙ take-length c.args.items.now) (c.loop-item.invariant table stuck knows)
