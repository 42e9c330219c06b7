-- What the members that were read are, a member at a time.
use Rattle.std.proofs.Common.{◌≡◌, ◌∙◌, ℕ, ◌&&◌, List, Ordering, Less, Equal, Greater, nat_cmp, Bool, true, false, Option, Some, None, ℤ, bytes_eq, codes, option_map, refl, sym, ap, ap₂, true≢false}
use Rattle.std.proofs.lemmas.Slice.Eq.{bytes_eq-Decides}
use Rattle.std.specs.List.{list_any}
use Rattle.std.specs.Ordering.{match_ordering}
use Rattle.std.specs.Cmp.Lexicographic.{slice_cmp}
use Rattle.json.specs.Token.{Token}
use Rattle.serde_json.specs.Data.{Data, Members, member, no_members, put}
use Rattle.serde_json.proofs.Views.{get_member-put, get_member-put_other}
use Rattle.points.specs.Steps.{◌>>=◌}
use Rattle.delivery_json.specs.CommandMembers.{IsReadAs, Reads}
use Rattle.delivery_json.specs.Readings.{command_keys, has_only, integer_in, name_in, priority_in, value_in}
use Rattle.delivery_json.specs.declared.command_members.CommandMembers.{CommandMembers}
use Rattle.delivery_json.specs.Scalars.{scalar_of, parsed_by}

-- the value of a token that tells something
reported-scalar : {A : Type 0} (o : Option Data) (tells : Data → Option A) (a : A) → (o >>= tells) ≡ Some a
    → (d : Data) × (o ≡ Some d) × (tells d ≡ Some a)
reported-scalar None tells a e = absurd (cc)
reported-scalar (Some d) tells a e = (d, refl, e)

pub parsed_by-scalar : {A : Type 0} (t : Token) (tells : Data → Option A) (a : A) → parsed_by tells t ≡ Some a
    → (d : Data) × (scalar_of t ≡ Some d) × (tells d ≡ Some a)
parsed_by-scalar t tells a e = reported-scalar (scalar_of t) tells a e

-- ---- a member that is put

reads-put : {A : Type 0} (tells : Data → Option A) (key : List ℕ) (d : Data) (ms : Members) (a : A) → tells d ≡ Some a
    → Reads tells key (put key d ms) (Some a)
reads-put tells key d ms a e = ap (option_map tells) (get_member-put key d ms) ∙ ap Some e

reads-other : {A : Type 0} (tells : Data → Option A) (key k : List ℕ) (d : Data) (ms : Members) (reported : Option A) → (key ≡ k → ⊥)
    → Reads tells key ms reported → Reads tells key (put k d ms) reported
reads-other tells key k d ms reported differ before = ap (option_map tells) (get_member-put_other key k d ms differ) ∙ before

both : (a b : Bool) → a && b ≡ true → (a ≡ true) × (b ≡ true)
both true true e = (refl, refl)
both true false e = absurd (cc)
both false b e = absurd (cc)

and_true : (a b : Bool) → a ≡ true → b ≡ true → a && b ≡ true
and_true a b e f = ap₂ (λ x y. x && y) e f

module _ (known : List (List ℕ)) (k : List ℕ) (d : Data) where
  one_of : (o : Ordering) (a b c : Members) → has_only known a ≡ true → has_only known b ≡ true → has_only known c ≡ true
      → has_only known (match_ordering o a b c) ≡ true
  one_of Less a b c e f g = e
  one_of Equal a b c e f g = f
  one_of Greater a b c e f g = g

  pub only-put : (ms : Members) → list_any (λ q. bytes_eq q k) known ≡ true → has_only known ms ≡ true → has_only known (put k d ms) ≡ true
  only-put no_members e f = and_true _ _ e refl
  only-put (member l v ms) e f =
      let split = both (list_any (λ q. bytes_eq q l) known) (has_only known ms) f in
      one_of (slice_cmp nat_cmp k l) _ _ _ (and_true _ _ e f) f (and_true _ _ split.0 (only-put ms e split.1))

apart : (xs ys : List ℕ) → bytes_eq xs ys ≡ false → xs ≡ ys → ⊥
apart xs ys e same = absurd (true≢false (sym ((bytes_eq-Decides xs ys).1 same) ∙ e))

module _ (reported : CommandMembers) (d : Data) (ms : Members) (so_far : IsReadAs reported ms) where
  with_others : {A : Type 0} (tells : Data → Option A) (key k : List ℕ) (was : Option A) → bytes_eq key k ≡ false → Reads tells key ms was
      → Reads tells key (put k d ms) was
  with_others tells key k was e before = reads-other tells key k d ms was (apart key k e) before

  pub number-taken : (z : ℤ) → integer_in d ≡ Some z → IsReadAs (record reported { number = Some z }) (put (codes "number") d ms)
  number-taken z e = record {
    only = only-put command_keys (codes "number") d ms refl so_far.only;
    number = reads-put integer_in (codes "number") d ms z e;
    panel = with_others name_in (codes "panel") (codes "number") reported.panel refl so_far.panel;
    point = with_others name_in (codes "point") (codes "number") reported.point refl so_far.point;
    priority = with_others (λ v. priority_in (Some v)) (codes "priority") (codes "number") reported.priority refl so_far.priority;
    value = with_others value_in (codes "value") (codes "number") reported.value refl so_far.value;
  }

  pub panel-taken : (name : List ℕ) → name_in d ≡ Some name → IsReadAs (record reported { panel = Some name }) (put (codes "panel") d ms)
  panel-taken name e = record {
    only = only-put command_keys (codes "panel") d ms refl so_far.only;
    number = with_others integer_in (codes "number") (codes "panel") reported.number refl so_far.number;
    panel = reads-put name_in (codes "panel") d ms name e;
    point = with_others name_in (codes "point") (codes "panel") reported.point refl so_far.point;
    priority = with_others (λ v. priority_in (Some v)) (codes "priority") (codes "panel") reported.priority refl so_far.priority;
    value = with_others value_in (codes "value") (codes "panel") reported.value refl so_far.value;
  }

  pub point-taken : (name : List ℕ) → name_in d ≡ Some name → IsReadAs (record reported { point = Some name }) (put (codes "point") d ms)
  point-taken name e = record {
    only = only-put command_keys (codes "point") d ms refl so_far.only;
    number = with_others integer_in (codes "number") (codes "point") reported.number refl so_far.number;
    panel = with_others name_in (codes "panel") (codes "point") reported.panel refl so_far.panel;
    point = reads-put name_in (codes "point") d ms name e;
    priority = with_others (λ v. priority_in (Some v)) (codes "priority") (codes "point") reported.priority refl so_far.priority;
    value = with_others value_in (codes "value") (codes "point") reported.value refl so_far.value;
  }

  pub priority-taken : (z : ℤ) → priority_in (Some d) ≡ Some z → IsReadAs (record reported { priority = Some z }) (put (codes "priority") d ms)
  priority-taken z e = record {
    only = only-put command_keys (codes "priority") d ms refl so_far.only;
    number = with_others integer_in (codes "number") (codes "priority") reported.number refl so_far.number;
    panel = with_others name_in (codes "panel") (codes "priority") reported.panel refl so_far.panel;
    point = with_others name_in (codes "point") (codes "priority") reported.point refl so_far.point;
    priority = reads-put (λ v. priority_in (Some v)) (codes "priority") d ms z e;
    value = with_others value_in (codes "value") (codes "priority") reported.value refl so_far.value;
  }

  pub value-taken : (z : Option ℤ) → value_in d ≡ Some z → IsReadAs (record reported { value = Some z }) (put (codes "value") d ms)
  value-taken z e = record {
    only = only-put command_keys (codes "value") d ms refl so_far.only;
    number = with_others integer_in (codes "number") (codes "value") reported.number refl so_far.number;
    panel = with_others name_in (codes "panel") (codes "value") reported.panel refl so_far.panel;
    point = with_others name_in (codes "point") (codes "value") reported.point refl so_far.point;
    priority = with_others (λ v. priority_in (Some v)) (codes "priority") (codes "value") reported.priority refl so_far.priority;
    value = reads-put value_in (codes "value") d ms z e;
  }
