use Rattle.std.proofs.Common.{◌≡◌, ◌∙◌, ◌<◌, ◌≤◌, List, [], ◌∷◌, length, slice_index_or, ap, sym, arith}
use Rattle.std.proofs.lemmas.Slice.Eq.{bytes_eq-Decides}
use Rattle.store.specs.declared.change.RowsBelow.{RowsBelow}
use Rattle.store_sql.proofs.writing.exchange_of.Goals as goal

-- a list of one item
alone : {X : Type 0} (xs : List X) (x : X) → 1 ≤ length xs → length xs < 2 → x ≡ slice_index_or xs 0 x → xs ≡ x ∷ []
alone [] x some one is = absurd (omega arith)
alone (y ∷ []) x some one is = ap (λ z. z ∷ []) (sym is)
alone (y ∷ z ∷ xs) x some one is = absurd (omega arith)

pub returns-then-dropped-item : goal.returns-then-dropped-item
returns-then-dropped-item c =
    let item = c.item-item.result in
    let dropped : RowsBelow = c.dropped-item.result in
    let panel = (bytes_eq-Decides dropped.panel item.panel).0 (sym c.eq.ensures ∙ c.if-eq.true) in
    record {
      row = sym c.as_slice.ensures.value ∙ alone c.as_slice.result.now item c.in-len1.len_at_least c.in-len1.len_below c.item-item.is;
      dropped = sym c.as_slice-2.ensures.value
          ∙ alone c.as_slice-2.result.now dropped c.in-len1-as_slice.len_at_least c.in-len1-as_slice.len_below c.dropped-item.is
          ∙ ap (λ q. (let it : RowsBelow = record { panel = q; number = dropped.number } in it) ∷ []) panel;
      low = c.if-dropped-item.true;
    }
