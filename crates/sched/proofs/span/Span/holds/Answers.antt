use Rattle.std.proofs.Common.{◌≡◌, ◌≤◌, ℕ, Bool, true, false, not, arith, refl, sym, ◌∙◌}
use Rattle.std.specs.Ordering.{is_le, nat_cmp}
use Rattle.std.proofs.lemmas.Bool.Decides.{nat_tests, Decides-int_eq}
use Rattle.jiff_core.specs.Date.{epoch_day}
use Rattle.dates.proofs.DayLemmas.{same_date}
use Rattle.sched.proofs.span.Span.holds.Goals as goal

at_most : (a b : ℕ) → is_le (nat_cmp a b) ≡ true → a ≤ b
at_most a b e = grind (arith, nat_tests)

is_at_most : (a b : ℕ) → a ≤ b → is_le (nat_cmp a b) ≡ true
is_at_most a b h = grind (arith, nat_tests)

no_other : (b : Bool) → false ≡ not b → b ≡ true
no_other true e = refl
no_other false e = e

pub returns-then-le : goal.returns-then-le
returns-then-le c =
    let same = same_date c.args.self.now.day c.args.day
    ((Decides-int_eq (epoch_day c.args.self.now.day) (epoch_day c.args.day)).0 (no_other _ (sym c.if-ne.false ∙ c.ne.ensures))) in
    let begins = at_most c.args.self.now.first c.args.time (sym c.le.ensures ∙ c.if-le.true) in (
      λ yes. (same, begins, at_most c.args.time c.args.self.now.last (sym c.le-then-le.ensures ∙ yes)),
      λ is. c.le-then-le.ensures ∙ is_at_most c.args.time c.args.self.now.last is.2,
    )
