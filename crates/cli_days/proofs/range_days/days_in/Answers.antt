use Rattle.std.proofs.Common.{◌≡◌, ◌∙◌, [], ◌-◌, ap, arith, filter}
use Rattle.std.specs.List.{flat_map, range_with_len}
use Rattle.dates.specs.Range.{in_range}
use Rattle.cli_days.specs.RangeDays.{all_days, year_days}
use Rattle.cli_days.proofs.PartLemmas.{filter-flat_map, part-more}
use Rattle.cli_days.proofs.range_days.days_in.Goals as goal

pub loop-year-preserved : goal.loop-year-preserved
loop-year-preserved c =
    part-more (λ year. filter (in_range c.args.range.now) (year_days year)) [] c.loop-year.days.items c.push_year.new.days.items 1900
    c.loop-year.year (omega (arith, c.loop-year.auto.year)) c.loop-year.invariant c.in_ok-push_year.ensures

pub returns : goal.returns
unfolding all_days
returns c =
    let last : c.loop-year.year ≡ 2155 =
    omega (arith, c.loop-year.auto.year, c.loop-year.auto.year-end, c.loop-year-test.false) in
    c.loop-year.invariant
    ∙ (filter-flat_map (in_range c.args.range.now) year_days (range_with_len 1900 (c.loop-year.year - 1900))
    ∙ ap (λ n. filter (in_range c.args.range.now) (flat_map year_days (range_with_len 1900 (n - 1900)))) last)
