use Rattle.std.proofs.Common.{◌≡◌, refl, sym, subst, List, IsTrue}
use Rattle.sqlite_schema.specs.declared.schema.Index.{Index}
use Rattle.store_sql_rows.proofs.Indexes.{desk_indexes}
use Rattle.store_sql_rows.proofs.Items.{five}
use Rattle.store_sql_rows.proofs.recognise.are_indexes.Goals as goal

pub returns : goal.returns
returns c =
    subst (λ (l : List Index). (IsTrue c.is_key_index-5.result → c.args.indexes.now ≡ l)
    × (c.args.indexes.now ≡ l → IsTrue c.is_key_index-5.result)) (sym desk_indexes)
    (five c.args.indexes.now c.panel-item.result c.command-item.result c.place-item.result c.shown-item.result
    c.imported-item.result _ _ _ _ _ _ c.in-len5.len_at_least c.in-len5.len_below
    c.panel-item.is c.command-item.is c.place-item.is c.shown-item.is c.imported-item.is
    (c.if-not-is_key_index.ensures.0 refl) (c.if-not-is_key_index-2.ensures.0 refl) (c.if-not-is_key_index-3.ensures.0 refl)
    (c.if-not-is_key_index-4.ensures.0 refl) c.is_key_index-5.ensures)
