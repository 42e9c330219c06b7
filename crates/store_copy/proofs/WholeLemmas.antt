-- A change that makes the whole of a store's tables.
use Rattle.std.proofs.Common.{◌≡◌, ◌∙◌, ℕ, ◌==◌, Bool, true, false, cond, List, [], Option, Some, None, inl, inr, refl, ap}
use Rattle.std.specs.Prelude.{ℤ, IsSome}
use Rattle.std.specs.Cmp.{nat_cmp_total}
use Rattle.std.specs.FinMap.{get, get-empty, nat_cmp-IsAntisymmetric, same_map}
use Rattle.std.specs.Ordering.{nat_cmp}
use Rattle.std.proofs.lemmas.Bool.{cases_Bool}
use Rattle.std.proofs.lemmas.Bool.Decides.{Decides-eqb}
use Rattle.points.specs.declared.command_row.CommandRow.{CommandRow}
use Rattle.points.specs.Texts.{Text}
use Rattle.store.proofs.StoodLemmas.{not_true}
use Rattle.store.specs.Change.{with_change, with_each, with_imported, with_last_tick, with_next, with_place, with_row, with_shown, without_rows}
use Rattle.store.specs.declared.change.Change.{Change}
use Rattle.store.specs.declared.change.RowsBelow.{RowsBelow}
use Rattle.store.specs.declared.names.Names.{Names}
use Rattle.store.specs.Listed.{AreNames, HasCalendar, HasPanel, HasPoint, HasSchedule}
use Rattle.store.specs.Tables.{Tables, no_tables}
use Rattle.store_copy.specs.Named.{at_names}
use Rattle.store_copy.specs.Remembered.{is_remembered, remembered, remembered_row}
use Rattle.store_copy.proofs.NameLemmas.{names-whole}

-- what a change puts of each table
pub record PutsNamed (change : Change) (tables : Tables) (names : Names) : Type 0 where
  pub places : (q : Text) (p : ℕ) → get (with_each with_place change.places.items no_tables.places q) p
      ≡ at_names names.points.items (λ point. get (tables.places point) p) None q
  pub next : (q : Text) → with_each with_next change.nexts.items no_tables.next q ≡ at_names names.panels.items tables.next 1 q
  pub row : (q : Text) (n : ℕ) → with_each with_row change.rows.items no_tables.row q n
      ≡ at_names names.panels.items (λ panel. remembered_row (tables.next panel) (tables.row panel) n) None q
  pub dropped : change.dropped.items ≡ []
  pub shown : (q : Text) → with_each with_shown change.shown.items no_tables.shown q ≡ at_names names.schedules.items tables.shown None q
  pub imported : (q text : Text) → with_each with_imported change.imported.items no_tables.imported q text
      ≡ at_names names.calendars.items (λ calendar. tables.imported calendar text) false q
  pub last_tick : change.last_tick ≡ tables.last_tick

is_none : {A : Type 0} (o : Option A) → (IsSome o → ⊥) → o ≡ None
is_none None none = refl
is_none (Some x) none = absurd (none refl)

no_panel-next : (tables : Tables) (q : Text) → (HasPanel tables q → ⊥) → tables.next q ≡ 1
no_panel-next tables q none = elim (cases_Bool (tables.next q == 1)) [
  | inl one ↦ (Decides-eqb (tables.next q) 1).0 one
  | inr other ↦ absurd (none (inl (λ is. let one = (Decides-eqb (tables.next q) 1).1 is in cc)))
]

no_panel-row : (tables : Tables) (q : Text) (n : ℕ) → (HasPanel tables q → ⊥) → remembered_row (tables.next q) (tables.row q) n ≡ None
no_panel-row tables q n none =
    ap (λ o. cond (is_remembered (tables.next q) n) o None) (is_none (tables.row q n) (λ some. none (inr (n, some))))
    ∙ by (is_remembered (tables.next q) n)
  where
    by : (b : Bool) → cond {A = Option CommandRow} b None None ≡ None
    by true = refl
    by false = refl

no_point : (tables : Tables) (q : Text) (p : ℕ) → (HasPoint tables q → ⊥) → get (tables.places q) p ≡ None
no_point tables q p none = is_none (get (tables.places q) p)
    (λ some. none (λ is. let here = ap (λ m. get m p) is ∙ get-empty nat_cmp p in cc))

first_tick : (last : Option ℤ) → with_last_tick last None ≡ last
first_tick None = refl
first_tick (Some moment) = refl

pub whole : (change : Change) (tables : Tables) (names : Names) → AreNames tables names → PutsNamed change tables names
    → with_change change no_tables ≡ remembered tables
unfolding with_change
whole change tables names are puts = λ i. record {
  places = λ q. same_map nat_cmp_total nat_cmp-IsAntisymmetric (with_each with_place change.places.items no_tables.places q) (tables.places q)
      (λ p. puts.places q p
      ∙ names-whole (HasPoint tables) names.points.items are.points (λ point. get (tables.places point) p) None q (no_point tables q p)) i;
  next = λ q. (puts.next q ∙ names-whole (HasPanel tables) names.panels.items are.panels tables.next 1 q (no_panel-next tables q)) i;
  row = λ q n. (ap (λ (list : List RowsBelow). with_each without_rows list (with_each with_row change.rows.items no_tables.row) q n) puts.dropped
      ∙ puts.row q n
      ∙ names-whole (HasPanel tables) names.panels.items are.panels (λ panel. remembered_row (tables.next panel) (tables.row panel) n) None q (no_panel-row tables q n)) i;
  shown = λ q. (puts.shown q
      ∙ names-whole (HasSchedule tables) names.schedules.items are.schedules tables.shown None q (is_none (tables.shown q))) i;
  imported = λ q text. (puts.imported q text
      ∙ names-whole (HasCalendar tables) names.calendars.items are.calendars (λ calendar. tables.imported calendar text) false q
      (λ none. not_true (tables.imported q text) (λ here. none (text, here)))) i;
  last_tick = (first_tick change.last_tick ∙ puts.last_tick) i;
}
