-- The tables that were taken along suit the building.
use Rattle.std.proofs.Common.{◌≡◌, ◌∙◌, ◌⊎◌, inl, inr, Bool, true, false, cond, List, Option, None, IsSome, is_some, refl, sym, ap, subst}
use Rattle.std.specs.Bool.{IsTrue}
use Rattle.std.specs.Cmp.{nat_cmp_total}
use Rattle.std.specs.FinMap.{empty, get, get-empty, nat_cmp-IsAntisymmetric, same_map}
use Rattle.std.specs.Ordering.{nat_cmp}
use Rattle.std.proofs.lemmas.Bool.{cases_Bool, false≢true}
use Rattle.desk_adopt.specs.Adopted.{AreMoved, IsAdopted}
use Rattle.desk_adopt.specs.declared.renaming.Renaming.{Renaming}
use Rattle.desk_adopt.specs.declared.sections.Sections.{Sections}
use Rattle.building.specs.Building.{Building}
use Rattle.desk.specs.Opening.{Suits, has_calendar, has_panel, has_point, is_ticked}
use Rattle.store.specs.Listed.{HasCalendar, HasPanel, HasPoint, HasSchedule}
use Rattle.store.specs.Tables.{Tables}
use Rattle.points.specs.Texts.{Text}

-- a table that has nothing at other names than those of some items stands only under one of these
stands_at : {A : Type 0} (has : Bool) (here none now : A) → now ≡ cond has here none → (now ≡ none → ⊥) → IsTrue has
stands_at true here none now is stands = refl
stands_at false here none now is stands = absurd (stands is)

none_at : {A : Type 0} (has : Bool) (here now : Option A) → now ≡ cond has here None → has ≡ false → now ≡ None
none_at true here now is other = absurd (false≢true (sym other))
none_at false here now is other = is

nothing : {A : Type 0} (o : Option A) → o ≡ None → IsSome o → ⊥
nothing o none some = false≢true (sym (ap is_some none) ∙ some)

is_false : (b : Bool) → b ≡ false → IsTrue b → ⊥
is_false b isnt is = false≢true (sym isnt ∙ is)

pub panels-known : (building : Building) (sections : Sections) (old new : Tables) → AreMoved building sections old new → (name : Text)
    → HasPanel new name → IsTrue (has_panel building name)
panels-known building sections old new is name (inl moved) = stands_at (has_panel building name) _ 1 (new.next name) (is.next name) moved
panels-known building sections old new is name (inr (number, kept)) =
    stands_at (has_panel building name) _ None (new.row name number) (is.row name number) (λ none. nothing (new.row name number) none kept)

pub points-known : (building : Building) (sections : Sections) (old new : Tables) → AreMoved building sections old new → (name : Text)
    → HasPoint new name → IsTrue (has_point building name)
points-known building sections old new is name has = elim (cases_Bool (has_point building name)) [
  | inl known ↦ known
  | inr other ↦ absurd (has (same_map nat_cmp_total nat_cmp-IsAntisymmetric (new.places name) empty (λ p.
      none_at (has_point building name) _ (get (new.places name) p) (is.places name p) other ∙ sym (get-empty nat_cmp p))))
]

pub schedules-known : (building : Building) (sections : Sections) (old new : Tables) → AreMoved building sections old new → (name : Text)
    → HasSchedule new name → ⊥
schedules-known building sections old new is name shows = nothing (new.shown name) (is.shown name) shows

pub calendars-known : (building : Building) (sections : Sections) (old new : Tables) → AreMoved building sections old new → (name : Text)
    → HasCalendar new name → IsTrue (has_calendar building name)
calendars-known building sections old new is name (text, kept) =
    stands_at (has_calendar building name) _ false (new.imported name text) (is.imported name text)
    (λ none. is_false (new.imported name text) none kept)

pub suits-adopted : (building : Building) (renamings : List Renaming) (old new : Tables) → IsAdopted building renamings old new
    → IsTrue (is_ticked building old.last_tick) → Suits building new
suits-adopted building renamings old new is ticked = record {
  names = record {
    panels = panels-known building is.sections old new is.moved;
    points = points-known building is.sections old new is.moved;
    schedules = λ name shows. absurd (schedules-known building is.sections old new is.moved name shows);
    calendars = calendars-known building is.sections old new is.moved;
  };
  last = subst (λ last. IsTrue (is_ticked building last)) (sym is.moved.last_tick) ticked;
}
