use Rattle.std.proofs.Common.{◌≡◌, ◌∙◌, ◌++◌, ◌-◌, ap, arith, filter}
use Rattle.std.specs.List.{flat_map, range_with_len}
use Rattle.dates.specs.Range.{in_range}
use Rattle.cli_days.specs.RangeDays.{month_days, year_days}
use Rattle.cli_days.proofs.PartLemmas.{filter-flat_map, part-more}
use Rattle.cli_days.proofs.range_days.push_year.Goals as goal

pub loop-month-preserved : goal.loop-month-preserved
loop-month-preserved c =
    part-more (λ month. filter (in_range c.args.range.now) (month_days c.args.year month)) c.args.days.now.items c.loop-month.days.items
    c.push_month.new.days.items 1 c.loop-month.month (omega (arith, c.loop-month.auto.month)) c.loop-month.invariant
    c.in_ok-push_month.ensures

pub returns : goal.returns
unfolding year_days
returns c =
    let last : c.loop-month.month ≡ 13 =
    omega (arith, c.loop-month.auto.month, c.loop-month.auto.month-end, c.loop-month-test.false) in
    c.loop-month.invariant
    ∙ ap (λ ds. c.args.days.now.items ++ ds)
    (filter-flat_map (in_range c.args.range.now) (month_days c.args.year) (range_with_len 1 (c.loop-month.month - 1))
    ∙ ap (λ n. filter (in_range c.args.range.now) (flat_map (month_days c.args.year) (range_with_len 1 (n - 1)))) last)
