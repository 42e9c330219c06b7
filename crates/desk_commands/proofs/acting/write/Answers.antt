use Rattle.std.proofs.Common.{◌≡◌, ◌∙◌, sym, ap, to_z, of_z, w64, rules}
use Rattle.points.specs.PriorityArray.{Places, present_of}
use Rattle.deliveries.specs.Machine.{commanded, default_of, done_of}
use Rattle.desk_commands.specs.Written.{places_at, written}
use Rattle.desk_commands.proofs.CommandLemmas.{written-at}
use Rattle.desk_commands.proofs.acting.write.Goals as goal

pub returns-clause-answer : goal.returns-clause-answer
returns-clause-answer g c = λ honest.
    let content = c.args.content.now in
    let held = (g.S.Store.standing c.args.store.now).content.tables.places in
    let values = c.args.values.now.items in
    let whole : to_z w64 (of_z w64 c.present-present.result.0) ≡ c.present-present.result.0 = search rules in
    let kept : to_z w64 (of_z w64 c.relinquish_default.result) ≡ c.relinquish_default.result = search rules in
    let base : to_z w64 (of_z w64 c.relinquish_default.result) ≡ default_of c.args.building.now content.point =
    kept ∙ c.relinquish_default.ensures c.args.building.now content.point c.requires.found in
    let read : c.in_ok-array.array ≡ held content.point = c.in_ok-array.ensures.value honest in
    let array : c.command_array.new.array ≡ commanded (written values held content.point) content =
    c.command_array.ensures ∙ ap (λ (places : Places). commanded places content)
    (c.put_written.ensures ∙ ((λ i. places_at content.point (c.as_slice.ensures.value i) (read i))
    ∙ sym (written-at content.point values held))) in
    rw whole (ap done_of c.present-present.ensures.present ∙ (λ i. done_of (present_of (array i) (base i))))

pub returns-clause-values : goal.returns-clause-values
returns-clause-values g c = λ honest.
    let content = c.args.content.now in
    let held = (g.S.Store.standing c.args.store.now).content.tables.places in
    let values = c.args.values.now.items in
    c.in_ok-push_value.ensures.values held
    (c.put_written.ensures ∙ ((λ i. places_at content.point (c.as_slice.ensures.value i) (c.in_ok-array.ensures.value honest i))
    ∙ sym (written-at content.point values held)))
