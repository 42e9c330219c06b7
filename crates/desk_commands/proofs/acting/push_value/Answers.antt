use Rattle.std.proofs.Common.{◌≡◌, ◌∙◌, ◌++◌, ◌∷◌, [], sym, ap, rules}
use Rattle.std.specs.FinMap.{get}
use Rattle.deliveries.specs.Machine.{place_of}
use Rattle.points.specs.PriorityArray.{Places}
use Rattle.store.specs.declared.change.PlaceValue.{PlaceValue}
use Rattle.desk_commands.specs.Written.{written}
use Rattle.desk_commands.proofs.CommandLemmas.{commanding-same, written-more}
use Rattle.desk_commands.proofs.acting.push_value.Goals as goal

-- a value that stands already is not written
pub returns-then-eq-clause-values : goal.returns-then-eq-clause-values
returns-then-eq-clause-values c = λ held is.
    let content = c.args.content.now in
    let places = written c.args.values.now.items held in
    let same : c.value_at.result ≡ content.value = search rules in
    let at : get c.args.array.now (place_of content.priority) ≡ c.value_at.result = search rules in
    commanding-same content places (ap (λ (array : Places). get array (place_of content.priority)) (sym is) ∙ at ∙ same)

pub returns-clause-values : goal.returns-clause-values
returns-clause-values c = λ held is.
    let content = c.args.content.now in
    let values = c.args.values.now.items in
    let item : PlaceValue = record { point = content.point; priority = place_of content.priority; value = content.value } in
    let more : c.push.new.self.items ≡ values ++ item ∷ [] = search rules in
    ap (λ items. written items held) more ∙ written-more values item held
