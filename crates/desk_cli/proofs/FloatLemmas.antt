-- The description of a building has no float.
use Rattle.std.proofs.Common.{◌≡◌, ℕ, ℤ, pos, negsuc, false, List, [], ◌∷◌, Option, Some, None, refl}
use Rattle.building.specs.BuildingFile.{Contents}
use Rattle.building.specs.declared.named_schedule.NamedSchedule.{NamedSchedule}
use Rattle.points.specs.declared.kind.Kind.{Kind}
use Rattle.points.specs.declared.kind.Kind.TheVariants.{Analog, Binary, Multistate}
use Rattle.points.specs.declared.Panel.{Panel}
use Rattle.serde_json.specs.Data.{Data, string}
use Rattle.serde_json.specs.Written.{has_float}
use Rattle.desk_cli.specs.Description.{array_of, calendar_data, description, integer, of_kind, panel_data, point_data, priority_data, schedule_data, zone_data}

array-no_float : {A : Type 0} (json : A → Data) → ((x : A) → has_float (json x) ≡ false) → (xs : List A)
    → has_float (array_of json xs) ≡ false
array-no_float json each [] = refl
array-no_float json each (x ∷ xs) = rw (each x) (array-no_float json each xs)

integer-no_float : (n : ℤ) → has_float (integer n) ≡ false
integer-no_float (pos n) = refl
integer-no_float (negsuc n) = refl

kind-no_float : (kind : Kind) (name : List ℕ) (default : ℤ) → has_float (of_kind kind name default) ≡ false
kind-no_float Binary name default = rw (integer-no_float default) refl
kind-no_float (Multistate states) name default = rw (integer-no_float default, integer-no_float states) refl
kind-no_float (Analog low high) name default = rw (integer-no_float default, integer-no_float low, integer-no_float high) refl

panel-no_float : (panel : Panel) → has_float (panel_data panel) ≡ false
panel-no_float panel = rw (array-no_float string (λ name. refl) panel.points, array-no_float priority_data (λ n. refl) panel.priorities) refl

schedule-no_float : (schedule : NamedSchedule) → has_float (schedule_data schedule) ≡ false
schedule-no_float schedule = rw (array-no_float string (λ name. refl) schedule.targets) refl

zone-no_float : (zone : Option (List ℕ)) → has_float (zone_data zone) ≡ false
zone-no_float None = refl
zone-no_float (Some text) = refl

pub no_float : (zone : Option (List ℕ)) (contents : Contents) → has_float (description zone contents) ≡ false
unfolding description
no_float zone contents =
    rw (
      array-no_float calendar_data (λ calendar. refl) contents.calendars,
      array-no_float panel_data panel-no_float contents.panels,
      array-no_float point_data (λ point. kind-no_float point.kind point.name point.relinquish_default) contents.points,
      array-no_float schedule_data schedule-no_float contents.schedules,
      zone-no_float zone,
    ) refl
