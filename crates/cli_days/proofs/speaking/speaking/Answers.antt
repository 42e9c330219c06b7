use Rattle.std.proofs.Common.{◌≡◌, ◌∙◌, ◌<◌, ap, arith, false, length, refl, sym}
use Rattle.std.specs.Option.{option_map_or}
use Rattle.std.proofs.lemmas.Option.{slice_get_read}
use Rattle.std.specs.List.{filter, range_with_len}
use Rattle.cli_days.specs.Speaking.{speaking, speaks_at_index, speaks_on}
use Rattle.cli_days.proofs.PartLemmas.{filter-more}
use Rattle.cli_days.proofs.speaking.speaking.Goals as goal

pub loop-index-preserved : goal.loop-index-preserved
loop-index-preserved c =
    let within : c.loop-index.index < length c.args.exceptions.now = omega (arith, c.loop-index-test.true) in
    let here = slice_get_read c.args.exceptions.now (length c.args.exceptions.now) c.loop-index.index c.index-exceptions-index.result
    refl within c.index-exceptions-index.is in
    filter-more (speaks_at_index c.args.calendars.now c.args.day c.args.exceptions.now) c.loop-index.index c.in_ok-speaks.speaks
    c.loop-index.indices.items c.push_index.new.indices.items c.loop-index.invariant
    (c.in_ok-speaks.ensures
    ∙ sym (ap (λ found. option_map_or (speaks_on c.args.calendars.now c.args.day) found false) here)) c.in_ok-push_index.ensures

pub returns : goal.returns
unfolding speaking
returns c =
    let last : c.loop-index.index ≡ length c.args.exceptions.now = omega (arith, c.loop-index.auto.index-end, c.loop-index-test.false) in
    c.loop-index.invariant
    ∙ ap (λ n. filter (speaks_at_index c.args.calendars.now c.args.day c.args.exceptions.now) (range_with_len 0 n)) last
