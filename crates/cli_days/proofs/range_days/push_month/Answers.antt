use Rattle.std.proofs.Common.{◌≡◌, ◌∙◌, [], ◌++◌, ◌-◌, ap, arith, filter}
use Rattle.std.specs.List.{cons_option, flat_map, range_with_len}
use Rattle.dates.specs.Day.{day_of}
use Rattle.dates.specs.Range.{in_range}
use Rattle.cli_days.specs.RangeDays.{month_days}
use Rattle.cli_days.proofs.PartLemmas.{filter-filter_map, part-more}
use Rattle.cli_days.proofs.range_days.push_month.Goals as goal

pub loop-number-preserved : goal.loop-number-preserved
loop-number-preserved c =
    part-more (λ number. filter (in_range c.args.range.now) (cons_option (day_of c.args.year c.args.month number) []))
    c.args.days.now.items c.loop-number.days.items c.push_day.new.days.items 1 c.loop-number.number
    (omega (arith, c.loop-number.auto.number)) c.loop-number.invariant
    (c.in_ok-push_day.ensures ∙ ap (λ found. c.loop-number.days.items ++ filter (in_range c.args.range.now) (cons_option found []))
    c.day_of.ensures)

pub returns : goal.returns
unfolding month_days
returns c =
    let last : c.loop-number.number ≡ 32 =
    omega (arith, c.loop-number.auto.number, c.loop-number.auto.number-end, c.loop-number-test.false) in
    c.loop-number.invariant
    ∙ ap (λ ds. c.args.days.now.items ++ ds)
    (filter-filter_map (in_range c.args.range.now) (day_of c.args.year c.args.month) (range_with_len 1 (c.loop-number.number - 1))
    ∙ ap (λ n. filter (in_range c.args.range.now) (Rattle.std.specs.List.filter_map (day_of c.args.year c.args.month) (range_with_len 1 (n - 1)))) last)
