use Rattle.std.proofs.Common.{◌≡◌, ◌==◌, ◌+◌, ◌∷◌, [], ◌++◌, Some, take, length, get_or, false, sym, subst, arith, rules}
use Rattle.std.proofs.lemmas.Bool.Decides.{nat_tests}
use Rattle.std.proofs.lemmas.List.{places, take_more}
use Rattle.delivery_json.specs.LineEnds.{IsLastEnd}
use Rattle.delivery_json.proofs.LineEndLemmas.{last-here, last-stays}
use Rattle.delivery_json.proofs.line_ends.last_end.Goals.{then-bytes-index-eq10, else-bytes-index-eq10}
use Rattle.delivery_json.proofs.line_ends.last_end.Goals as goal

pub loop-index-preserved : goal.loop-index-preserved
loop-index-preserved c =
    let bytes = c.args.bytes.now in
    let index = c.loop-index.index in
    let byte = get_or bytes index 0 in
    let more : take (index + 1) bytes ≡ take index bytes ++ byte ∷ [] = take_more bytes index 0 c.loop-index-test.true in
    let sized : length (take index bytes) ≡ index = search (rules, places) in
    elim c.if-bytes-index-eq10.branch [
      | then-bytes-index-eq10 w ↦
          let here : byte ≡ 10 = w.if-bytes-index-eq10.true in
          rw w.last-is (subst (IsLastEnd (Some index)) (sym more) (last-here (take index bytes) byte index here sized))
      | else-bytes-index-eq10 w ↦
          let other : (byte == 10) ≡ false = grind (arith, nat_tests, w.if-bytes-index-eq10.false) in
          rw w.last-is (subst (IsLastEnd c.loop-index.last) (sym more)
          (last-stays c.loop-index.last (take index bytes) byte other c.loop-index.invariant))
    ]
