use Rattle.std.proofs.Common.{◌≡◌, ◌∙◌, ap, arith, inl, inr, refl, Some}
use Rattle.std.specs.BTreeMap.{get}
use Rattle.std.specs.Ordering.{nat_cmp}
use Rattle.points.specs.declared.numbered_row.NumberedRow.{NumberedRow}
use Rattle.store_sql.specs.Stepping.{IsNear}
use Rattle.store_sql.proofs.NumberLemmas.{near_none, near_some, stood_none, stood_some, unless_far}
use Rattle.store_sql.proofs.NumberedLemmas.{near_is_none, next_is}
use Rattle.store_sql.proofs.numbered.next_in_run.Goals as goal

pub returns-in_default-clause-value : goal.returns-in_default-clause-value
returns-in_default-clause-value c kept panel least gap listed start up =
    let none = near_is_none kept panel least c.args.upto gap c.args.from c.args.numbered.now c.requires listed up start
    c.in_default.ensures.none in (
      near_none kept panel c.args.from c.args.upto none,
      stood_none kept panel c.args.from c.args.upto none,
      tt,
    )

pub returns-then-number-from-clause-value : goal.returns-then-number-from-clause-value
returns-then-number-from-clause-value c kept panel least gap listed start up =
    let at = next_is kept panel least c.args.upto gap c.args.from c.args.numbered.now c.requires listed up c.in-Some.number c.in-Some.said
    c.in-Some.ensures.after c.in-Some.ensures.at c.in-Some.ensures.least in
    let none = unless_far kept panel c.args.from c.args.upto c.in-Some.number at.0 c.if-upto-number.true c.if-number-from.true in (
      near_none kept panel c.args.from c.args.upto none,
      stood_none kept panel c.args.from c.args.upto none,
      tt,
    )

pub returns-in-Some-said-clause-value : goal.returns-in-Some-said-clause-value
returns-in-Some-said-clause-value c kept panel least gap listed start up =
    let number = c.in-Some.number in
    let at = next_is kept panel least c.args.upto gap c.args.from c.args.numbered.now c.requires listed up number c.in-Some.said
    c.in-Some.ensures.after c.in-Some.ensures.at c.in-Some.ensures.least in
    let near : IsNear c.args.from c.args.upto number = elim c.else-upto-number.either [ inl past ↦ inr past.1 | inr low ↦ inl low ] in
    let said : get nat_cmp c.args.numbered.now number ≡ Some (Some c.in-Some-said.row) = c.in-Some.ensures.at ∙ ap Some c.in-Some-said.is in
    let found : NumberedRow = record { number = number; row = c.in-Some-said.row } in
    let before = at.1 in
    let told = listed.some number c.in-Some-said.row (up number c.in-Some.ensures.after at.0.is.least) (omega (arith, before)) said in (
      near_some kept panel c.args.from c.args.upto number found (record { at = at.0; near = near }) refl told.0,
      stood_some kept panel c.args.from c.args.upto number found (record { at = at.0; near = near }) refl told.1,
      before,
    )
