-- What was read of an object's members, under a command's keys.
use Rattle.std.specs.Prelude.{◌≡◌, ℕ, List, [], ◌∷◌, Option, Some, true, codes, option_map}
use Rattle.serde_json.specs.Data.{Data, Members, object}
use Rattle.serde_json.specs.Find.{get_member}
use Rattle.delivery_json.specs.Readings.{command_keys, has_only, integer_in, name_in, priority_in, value_in}
use Rattle.delivery_json.specs.PanelLine.{command_body_in}
use Rattle.delivery_json.specs.declared.command_members.CommandMembers.{CommandMembers}
use Rattle.delivery_json.specs.declared.panel_line.CommandBody.{CommandBody}

-- what was read is what the member with the key tells, where there is one, and nothing where there is none
abbrev pub Reads : {A : Type 0} → (Data → Option A) → List ℕ → Members → Option A → Type 0
Reads tells key ms reported = option_map tells (get_member key ms) ≡ option_map Some reported

-- the members have no other key than a command's, and what was read is what they tell
abbrev pub IsReadAs : CommandMembers → Members → Type 0
IsReadAs reported ms = record {
  only : has_only command_keys ms ≡ true;
  number : Reads integer_in (codes "number") ms reported.number;
  panel : Reads name_in (codes "panel") ms reported.panel;
  point : Reads name_in (codes "point") ms reported.point;
  priority : Reads (λ d. priority_in (Some d)) (codes "priority") ms reported.priority;
  value : Reads value_in (codes "value") ms reported.value;
}

-- the keys of a command without its panel
abbrev pub body_keys : List (List ℕ)
body_keys = codes "number" ∷ codes "point" ∷ codes "priority" ∷ codes "value" ∷ []

-- the value is an object that tells this command without its panel, and has no other key
abbrev pub IsBody : Option Data → CommandBody → Type 0
IsBody value command = (ms : Members) × (value ≡ Some (object ms)) × (command_body_in (object ms) ≡ Some command)
    × (has_only body_keys ms ≡ true)
