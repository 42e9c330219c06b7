-- What the rules say of one command.
use Rattle.std.proofs.Common.{◌≡◌, ℕ, ℤ, Bool, true, false, cond, List, [], ◌∷◌, ◌++◌, Option, Some, None, find, refl, sym, ap, ◌∙◌, subst, inl, inr}
use Rattle.std.specs.Option.{option_map_or}
use Rattle.points.specs.declared.answer.Answer.TheVariants.{Refused}
use Rattle.points.specs.declared.content.Content.{Content}
use Rattle.points.specs.declared.panel.Panel.{Panel}
use Rattle.points.specs.declared.point.Point.{Point}
use Rattle.points.specs.declared.rule.Rule.{Rule}
use Rattle.points.specs.declared.rule.Rule.TheVariants.{NoSuchPoint, NotGranted, NoSuchPriority}
use Rattle.std.specs.Str.{bytes_eq}
use Rattle.std.proofs.lemmas.Bool.{cases_Bool, cases_eq}
use Rattle.std.specs.Cmp.{nat_cmp_total}
use Rattle.std.specs.FinMap.{get, get-insert, get-remove, nat_cmp-IsAntisymmetric, same_map}
use Rattle.std.specs.Ordering.{eq_by_cmp, nat_cmp}
use Rattle.points.proofs.PlacesLemmas.{tied_apart}
use Rattle.std.proofs.lemmas.Slice.Eq.{bytes_eq-Decides}
use Rattle.points.specs.PriorityArray.{Places, present_of, put}
use Rattle.points.specs.Rights.{breaks, rule_of, names_no_place}
use Rattle.building.specs.Building.{Building}
use Rattle.deliveries.specs.Accepted.{panel_named}
use Rattle.points.specs.Texts.{Text}
use Rattle.desk_commands.specs.Written.{commanding, places_at, written}
use Rattle.store.specs.declared.change.PlaceValue.{PlaceValue}
use Rattle.store.specs.Change.{with_place}
use Rattle.deliveries.proofs.MachineLemmas.{with_each-append}
use Rattle.deliveries.specs.Machine.{answer_to, places_after, places_under, rule_for, commanded, default_of, done_of, place_of}

not_none : (r : Rule) → Some r ≡ None → ⊥
not_none r e = cc

first_three : (a b d : Bool) (rest : Option Rule)
    → cond a (Some NoSuchPoint) (cond b (Some NotGranted) (cond d (Some NoSuchPriority) rest)) ≡ None → d ≡ false
first_three true b d rest e = absurd (not_none NoSuchPoint e)
first_three false true d rest e = absurd (not_none NotGranted e)
first_three false false true rest e = absurd (not_none NoSuchPriority e)
first_three false false false rest e = refl

place_of-permitted : (points : List Point) (panel : Panel) (content : Content) → rule_of points panel content ≡ None
    → names_no_place content.priority ≡ false
unfolding rule_of breaks
place_of-permitted points panel content e = first_three _ _ _ _ e

-- a permitted content names a place
pub names_a_place : (b : Building) (panel : Text) (content : Content) → rule_for b panel content ≡ None
    → names_no_place content.priority ≡ false
names_a_place b panel content e = under (panel_named b panel) e
  where
    under : (named : Option Panel) → option_map_or (λ p. rule_of b.points p content) named (Some NoSuchPoint) ≡ None
        → names_no_place content.priority ≡ false
    under None e = absurd (not_none NoSuchPoint e)
    under (Some p) e = place_of-permitted b.points p content e

pub rule_for-known : (b : Building) (panel : Text) (content : Content) (p : Panel) → panel_named b panel ≡ Some p
    → rule_for b panel content ≡ rule_of b.points p content
rule_for-known b panel content p known = rw known refl

pub answer_to-refused : (b : Building) (places : Text → Places) (panel : Text) (content : Content) (rule : Rule)
    → rule_for b panel content ≡ Some rule
    → answer_to b places panel content ≡ Refused rule
unfolding answer_to
answer_to-refused b places panel content rule e = rw e refl

pub answer_to-permitted : (b : Building) (places : Text → Places) (panel : Text) (content : Content) → rule_for b panel content ≡ None
    → answer_to b places panel content ≡ done_of (present_of (commanded (places content.point) content) (default_of b content.point))
unfolding answer_to
answer_to-permitted b places panel content e = rw e refl

pub places_after-refused : (b : Building) (places : Text → Places) (panel : Text) (content : Content) (rule : Rule)
    → rule_for b panel content ≡ Some rule
    → places_after b places panel content ≡ places
unfolding places_after
places_after-refused b places panel content rule e = rw e refl

pub places_after-permitted : (b : Building) (places : Text → Places) (panel : Text) (content : Content) → rule_for b panel content ≡ None
    → places_after b places panel content ≡ places_under None places content
unfolding places_after
places_after-permitted b places panel content e = rw e refl

-- a permitted content's value in its place
pub commanding-permitted : (b : Building) (p : Text) (content : Content) (places : Text → Places) → rule_for b p content ≡ None
    → commanding content places ≡ places_after b places p content
commanding-permitted b p content places none =
    (λ i q. here q i) ∙ sym (places_after-permitted b places p content none)
  where
    here : (q : Text)
        → cond (bytes_eq content.point q) (put (places q) (place_of content.priority) content.value) (places q)
        ≡ places_under None places content q
    here q = elim (cases_Bool (bytes_eq content.point q)) [
      | inl same ↦ rw same (ap (λ point. put (places point) (place_of content.priority) content.value)
          (sym ((bytes_eq-Decides content.point q).0 same)))
      | inr apart ↦ rw apart refl
    ]

-- a value that is written after others
pub written-more : (values : List PlaceValue) (item : PlaceValue) (held : Text → Places)
    → written (values ++ item ∷ []) held ≡ with_place item (written values held)
written-more values item held = with_each-append with_place values (item ∷ []) held

-- a value that stands in its place already changes nothing
cond-same : {A : Type 0} (b : Bool) (x y : A) → x ≡ y → cond b x y ≡ y
cond-same true x y same = same
cond-same false x y same = refl

get-put : (places : Places) (priority q : ℕ) (value : Option ℤ)
    → get (put places priority value) q ≡ cond (eq_by_cmp nat_cmp q priority) value (get places q)
get-put places priority q None = get-remove nat_cmp_total places priority q
get-put places priority q (Some value) = get-insert nat_cmp_total places priority value q

put-same : (places : Places) (priority : ℕ) (value : Option ℤ) → get places priority ≡ value → put places priority value ≡ places
put-same places priority value stands =
    same_map nat_cmp_total nat_cmp-IsAntisymmetric _ _ (λ q. get-put places priority q value ∙ at q)
  where
    at : (q : ℕ) → cond (eq_by_cmp nat_cmp q priority) value (get places q) ≡ get places q
    at q = elim (cases_eq q priority) [
      | inl same ↦ cond-same (eq_by_cmp nat_cmp q priority) value (get places q) (sym stands ∙ ap (get places) (sym same))
      | inr apart ↦ rw (tied_apart q priority apart) refl
    ]

pub commanding-same : (content : Content) (places : Text → Places)
    → get (places content.point) (place_of content.priority) ≡ content.value → places ≡ commanding content places
commanding-same content places stands = λ i q. sym (here q) i
  where
    here : (q : Text) → cond (bytes_eq content.point q) (put (places q) (place_of content.priority) content.value) (places q) ≡ places q
    here q = elim (cases_Bool (bytes_eq content.point q)) [
      | inl same ↦ rw same (put-same (places q) (place_of content.priority) content.value
          (subst (λ point. get (places point) (place_of content.priority) ≡ content.value)
          ((bytes_eq-Decides content.point q).0 same) stands))
      | inr apart ↦ rw apart refl
    ]

-- the places of one point with what is written there
pub written-at : (point : Text) (values : List PlaceValue) (held : Text → Places)
    → written values held point ≡ places_at point values (held point)
written-at point [] held = refl
written-at point (item ∷ items) held = written-at point items (with_place item held)

found_passes : {A : Type 0} (test : A → Bool) (xs : List A) (x : A) → find test xs ≡ Some x → test x ≡ true
found_passes test [] x e = absurd cc
found_passes test (y ∷ ys) x e = elim (cases_Bool (test y)) [
  | inl passes ↦ let same : Some y ≡ Some x = rw passes at e in let here : y ≡ x = cc in subst (λ w. test w ≡ true) here passes
  | inr fails ↦ found_passes test ys x (rw fails at e)
]

-- the panel that is found has the name
pub name_of-named : (b : Building) (p : Text) (panel : Panel) → panel_named b p ≡ Some panel → panel.name ≡ p
name_of-named b p panel e = (bytes_eq-Decides panel.name p).0 (found_passes (λ (x : Panel). bytes_eq x.name p) b.panels panel e)

pub named-again : (b : Building) (p : Text) (panel : Panel) → panel_named b p ≡ Some panel → panel_named b panel.name ≡ Some panel
named-again b p panel e = ap (panel_named b) (name_of-named b p panel e) ∙ e
