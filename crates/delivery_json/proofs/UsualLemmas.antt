-- What the members that were read of an object make a command.
use Rattle.std.proofs.Common.{◌≡◌, ◌∙◌, ◌&&◌, ℕ, ℤ, pos, List, Bool, true, false, true≢false, bytes_eq, Ordering, Less, Equal, Greater, nat_cmp, is_eq, Option, Some, None, IfSome, codes, option_and_then, option_map, unwrap_or, refl, sym, ap}
use Rattle.std.proofs.lemmas.Map.Text.{is_eq-slice_cmp}
use Rattle.std.proofs.lemmas.Slice.Eq.{bytes_eq-Decides}
use Rattle.std.specs.Cmp.Lexicographic.{slice_cmp}
use Rattle.std.specs.List.{list_any}
use Rattle.std.specs.Ordering.{match_ordering}
use Rattle.serde_json.specs.Data.{Data, Members, member, no_members, object}
use Rattle.serde_json.specs.Find.{get_member}
use Rattle.serde_json.specs.Read.{read}
use Rattle.building.specs.Building.{Building}
use Rattle.deliveries.specs.declared.delivery.Delivery.{Delivery}
use Rattle.deliveries.specs.declared.delivery.Delivery.TheVariants.{Command}
use Rattle.points.specs.Steps.{where_holds}
use Rattle.points.specs.Texts.{text_of}
use Rattle.delivery_json.specs.CommandMembers.{IsReadAs, Reads}
use Rattle.delivery_json.specs.Readings.{command_keys, has_only, integer_in, name_in, priority_in, value_in}
use Rattle.delivery_json.specs.declared.command_members.CommandMembers.{CommandMembers}
use Rattle.delivery_json.specs.DeliveryLine.{delivery_in, delivery_with, json_of, parsed_in, parse_line, parsed_with}
use Rattle.delivery_json.specs.PanelLine.{command_in, command_body_in, panel_delivery_in, panel_delivery_with}
use Rattle.delivery_json.specs.declared.panel_line.CommandBody.{CommandBody}
use Rattle.delivery_json.specs.declared.parsed_line.ParsedLine.TheVariants as parsed

pub some-weaker : {A : Type 0} (P Q : A → Type 0) (o : Option A) → ((a : A) → P a → Q a) → IfSome o P → IfSome o Q
some-weaker P Q None f h = h
some-weaker P Q (Some a) f h = f a h

abbrev inside : {A : Type 0} → Option (Option A) → Option A
inside None = None
inside (Some o) = o

-- ---- a key that has a value

found : {A : Type 0} (tells : Data → Option A) (o : Option Data) (a : A) → option_map tells o ≡ Some (Some a)
    → (d : Data) × (o ≡ Some d) × (tells d ≡ Some a)
found tells None a e = absurd (cc)
found tells (Some d) a e = (d, refl, ap inside e)

read_found : {A : Type 0} (tells : Data → Option A) (key : List ℕ) (ms : Members) (was : Option A) (a : A) → Reads tells key ms was
    → was ≡ Some a
    → (d : Data) × (get_member key ms ≡ Some d) × (tells d ≡ Some a)
read_found tells key ms was a reads is = found tells (get_member key ms) a (reads ∙ ap (option_map Some) is)

priority_found : (o : Option Data) (p : Option ℤ) → option_map (λ d. priority_in (Some d)) o ≡ option_map Some p
    → priority_in o ≡ Some (unwrap_or p (pos 16))
priority_found None None e = refl
priority_found None (Some z) e = absurd (cc)
priority_found (Some d) None e = absurd (cc)
priority_found (Some d) (Some z) e = ap inside e

-- ---- a key that has none

passed : (o : Ordering) (r : Option Data) (v : Data) → (o ≡ Equal → ⊥) → r ≡ None → match_ordering o r (Some v) r ≡ None
passed Less r v other e = e
passed Equal r v other e = absurd (other refl)
passed Greater r v other e = e

both : (a b : Bool) → a && b ≡ true → (a ≡ true) × (b ≡ true)
both true true e = (refl, refl)
both true false e = absurd (cc)
both false b e = absurd (cc)

absent : (known : List (List ℕ)) (q : List ℕ) (ms : Members) → list_any (λ k. bytes_eq k q) known ≡ false → has_only known ms ≡ true
    → get_member q ms ≡ None
absent known q no_members unknown e = refl
absent known q (member l v ms) unknown e =
    let split = both (list_any (λ k. bytes_eq k l) known) (has_only known ms) e in
    let other = λ (h : slice_cmp nat_cmp q l ≡ Equal).
    let same : q ≡ l = (bytes_eq-Decides q l).0 (sym (is_eq-slice_cmp q l) ∙ ap is_eq h) in
    absurd (true≢false (sym split.0 ∙ ap (λ t. list_any (λ k. bytes_eq k t) known) (sym same) ∙ unknown)) in
    passed (slice_cmp nat_cmp q l) (get_member q ms) v other (absent known q ms unknown split.1)

-- ---- the command

abbrev numbered_content : ℤ → List ℕ → ℤ → Option ℤ → CommandBody
numbered_content number point priority value =
    record { number = number; content = record { point = point; priority = priority; value = value } }

reported_in_turn : {A B C D E : Type 0} (n : Option A) (q : Option B) (p : Option C) (v : Option D) (f : A → B → C → D → E) (a : A)
    (b : B) (c : C) (d : D)
    → n ≡ Some a → q ≡ Some b → p ≡ Some c → v ≡ Some d
    → option_and_then (λ x. option_and_then (λ y. option_and_then (λ z. option_and_then (λ w. Some (f x y z w)) v) p) q) n
    ≡ Some (f a b c d)
reported_in_turn n q p v f a b c d e g h i = rw (e, g, h, i)

reported_where : {A B C : Type 0} (p : Option A) (t : Option B) (test : Bool) (f : A → B → C) (a : A) (b : B) → p ≡ Some a → t ≡ Some b
    → test ≡ true
    → option_and_then (λ x. option_and_then (λ y. where_holds test (f x y)) t) p ≡ Some (f a b)
reported_where p t test f a b e g h = rw (e, g, h)

reported_under : {A : Type 0} (tells : Data → Option A) (key : List ℕ) (ms : Members) (was : Option A) (a : A) → Reads tells key ms was
    → was ≡ Some a → option_and_then tells (get_member key ms) ≡ Some a
reported_under tells key ms was a reads is = let d = read_found tells key ms was a reads is in ap (option_and_then tells) d.1 ∙ d.2

module _ (reported : CommandMembers) (ms : Members) (is : IsReadAs reported ms) where
  numbered : (point : List ℕ) (number : ℤ) (value : Option ℤ) → reported.number ≡ Some number → reported.point ≡ Some point
      → reported.value ≡ Some value
      → command_body_in (object ms) ≡ Some (record {
        number = number;
        content =
            record { point = point; priority = unwrap_or reported.priority (pos 16); value = value };
      })
  unfolding command_body_in
  numbered point number value number_is point_is value_is =
      reported_in_turn (option_and_then integer_in (get_member (codes "number") ms)) (option_and_then name_in (get_member (codes "point") ms))
      (priority_in (get_member (codes "priority") ms)) (option_and_then value_in (get_member (codes "value") ms))
      (λ n q p v. numbered_content n q p v) number point (unwrap_or reported.priority (pos 16)) value
      (reported_under integer_in (codes "number") ms reported.number number is.number number_is)
      (reported_under name_in (codes "point") ms reported.point point is.point point_is)
      (priority_found (get_member (codes "priority") ms) reported.priority is.priority)
      (reported_under value_in (codes "value") ms reported.value value is.value value_is)

  pub command_reported : (panel point : List ℕ) (number : ℤ) (value : Option ℤ) → reported.panel ≡ Some panel → reported.number ≡ Some number
      → reported.point ≡ Some point → reported.value ≡ Some value
      → delivery_in (object ms) ≡ Some (Command panel number
      (record { point = point; priority = unwrap_or reported.priority (pos 16); value = value }))
  unfolding delivery_in panel_delivery_in command_in
  command_reported panel point number value panel_is number_is point_is value_is =
      let a = read_found name_in (codes "panel") ms reported.panel panel is.panel panel_is in
      let g = absent command_keys (codes "skip") ms refl is.only in
      ap (λ o. delivery_with o (object ms)) a.1
      ∙ ap (λ o. panel_delivery_with o (object ms)) g
      ∙ reported_where (option_and_then name_in (get_member (codes "panel") ms)) (command_body_in (object ms)) (has_only command_keys ms)
      (λ p t. Command p t.number t.content)
      panel (numbered_content number point (unwrap_or reported.priority (pos 16)) value)
      (reported_under name_in (codes "panel") ms reported.panel panel is.panel panel_is)
      (numbered point number value number_is point_is value_is) is.only

-- ---- the line

pub read_delivery : (line text : List ℕ) (d : Data) (command : Delivery) → text_of line ≡ Some text → read text ≡ Some d
    → delivery_in d ≡ Some command
    → option_and_then delivery_in (json_of line) ≡ Some command
read_delivery line text d command e f g =
    ap (λ o. option_and_then delivery_in (option_and_then read o)) e ∙ ap (option_and_then delivery_in) f ∙ g

parsed_by : (b : Building) (o : Option Data) (command : Delivery) → option_and_then delivery_in o ≡ Some command
    → option_and_then (parsed_in b) o ≡ Some (parsed.Delivery command)
unfolding parsed_in
parsed_by b None command e = absurd (cc)
parsed_by b (Some d) command e = ap (parsed_with b d) e

pub reported_command : (b : Building) (line : List ℕ) (command : Delivery) → option_and_then delivery_in (json_of line) ≡ Some command
    → parse_line b line ≡ Some (parsed.Delivery command)
unfolding parse_line
reported_command b line command e = parsed_by b (json_of line) command e
