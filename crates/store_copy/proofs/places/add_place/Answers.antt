use Rattle.std.proofs.Common.{◌∙◌, ap, sym, List}
use Rattle.std.specs.FinMap.{get}
use Rattle.store.specs.Change.{with_each, with_place}
use Rattle.store.specs.declared.change.PlaceValue.{PlaceValue}
use Rattle.store.specs.Tables.{no_tables}
use Rattle.store_copy.proofs.PlaceLemmas.{place-more}
use Rattle.store_copy.proofs.places.add_place.Goals as goal

pub returns-in_ok-push-clause-added : goal.returns-in_ok-push-clause-added
returns-in_ok-push-clause-added c = λ q p.
    let item : PlaceValue = record { point = c.args.point.now; priority = c.args.priority; value = c.args.value } in
    ap (λ (list : List PlaceValue). get (with_each with_place list no_tables.places q) p) c.in_ok-push.ensures.items
    ∙ place-more c.args.places.now.items item q p (sym c.is_some.ensures ∙ c.if-is_some.true)
