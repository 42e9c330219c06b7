use Rattle.std.proofs.Common.{◌≡◌, ◌∙◌, Bool, Option, true, false, cond, ap, sym, refl}
use Rattle.std.specs.FinMap.{get}
use Rattle.std.specs.Prelude.{ℤ}
use Rattle.std.specs.Str.{bytes_eq}
use Rattle.desk_adopt.specs.Adopted.{kept_value, no_places}
use Rattle.store_copy.specs.Named.{or_else}
use Rattle.desk_adopt.proofs.PlaceLemmas.{no-former}
use Rattle.store.specs.Change.{with_each, with_place}
use Rattle.desk_adopt.proofs.places.adopt_point.Goals as goal

unchanged : {A : Type 0} (b : Bool) (x : A) → x ≡ cond b x x
unchanged true x = refl
unchanged false x = refl

pub returns-in-None-clause-kept : goal.returns-in-None-clause-kept
returns-in-None-clause-kept g c = λ honest q p.
    let point = c.args.point.now in
    let old = get (with_each with_place c.args.places.now.items no_places q) p in
    let places = (g.S.Store.standing c.args.store.now).content.tables.places in
    unchanged (bytes_eq point q) old
    ∙ ap (λ (o : Option ℤ). cond (bytes_eq point q) (or_else (kept_value c.args.building.now point p o) old) old)
    (sym (no-former places _ p c.in-None.ensures))
