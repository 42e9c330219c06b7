-- The tables of deliveries to a building have no names but the building's.
use Rattle.std.proofs.Common.{◌≡◌, ℕ, ◌-◌, Bool, true, false, not, cond, List, [], ◌∷◌, ◌++◌, Option, Some, None, is_some, option_map, nat_lt, refl, sym, ap}
use Rattle.std.proofs.Common.{ℤ, ◌∙◌, fold, int_lt, subst, inl, inr}
use Rattle.std.specs.Bool.{IsTrue}
use Rattle.std.specs.FinMap.{empty}
use Rattle.std.specs.List.{flat_map, list_all, list_any}
use Rattle.std.specs.Option.{option_map_or}
use Rattle.std.specs.Str.{bytes_eq}
use Rattle.std.proofs.lemmas.Bool.{cases_Bool, false≢true}
use Rattle.std.proofs.lemmas.Slice.Eq.{bytes_eq-Decides}
use Rattle.points.specs.declared.command_row.CommandRow.{CommandRow}
use Rattle.points.specs.declared.content.Content.{Content}
use Rattle.points.specs.declared.panel.Panel.{Panel}
use Rattle.points.specs.declared.point.Point.{Point}
use Rattle.points.specs.declared.rule.Rule.{Rule}
use Rattle.points.specs.declared.rule.Rule.TheVariants.{NoSuchPoint}
use Rattle.points.specs.PriorityArray.{Places}
use Rattle.points.specs.Rights.{breaks, point_named, rule_of}
use Rattle.store.specs.declared.fault.StoreFault.{StoreFault}
use Rattle.store.specs.declared.fault.StoreFault.TheVariants.{BadRow}
use Rattle.store.specs.Listed.{HasPanel, HasPoint}
use Rattle.store.specs.Standing.{Content as a_holding, Standing}
use Rattle.points.specs.Texts.{Text}
use Rattle.window.specs.Taken as asks
use Rattle.window.specs.Window.{remembered}
use Rattle.building.specs.Building.{Building}
use Rattle.deliveries.specs.declared.delivery.Delivery.{Delivery}
use Rattle.deliveries.specs.Accepted.{asks_of, panel_named, panel_of, taken_by}
use Rattle.deliveries.specs.declared.delivery.Delivery.TheVariants as delivery_of
use Rattle.deliveries.specs.Events.{events_after, is_moment, later_of, machine, moment_of}
use Rattle.deliveries.proofs.ClockLemmas.{tables-last_tick}
use Rattle.deliveries.specs.Machine.{Event, Machine, local_of, opening_machine, places_after, places_under, rule_for, run, settled, step, with_rows}
use Rattle.deliveries.specs.Machine.Event.{Command, Import, Tick}
use Rattle.deliveries.specs.Tables.{row_at, row_of, tables}
use Rattle.deliveries.proofs.StepLemmas.{next-tables}
use Rattle.deliveries.specs.Delivered.{Holds}
use Rattle.local_times.specs.declared.local_clock.LocalTime.{LocalTime}
use Rattle.building.specs.ScheduleTable.{is_sound_schedule}
use Rattle.desk.specs.Opening.{AreKnown, Opens, Suits, has_calendar, has_panel, has_point, has_schedule, is_ticked}
use Rattle.desk_commands.proofs.DeliverLemmas.{none_of}
use Rattle.desk.proofs.ClockNames.{imported-no_calendar, settled-no_point, settled-no_schedule}
use Rattle.desk.proofs.OpeningLemmas.{is_some-find}

-- ---- panels

module _ (b : Building) (p : Text) (unknown : panel_named b p ≡ None) where
  asks-missing : (d : Delivery) → asks_of b p d ≡ []
  asks-missing d = elim (cases_Bool (bytes_eq (panel_of d) p)) [
    | inl same ↦ rw (same, unknown) refl
    | inr other ↦ rw other refl
  ]

  asked-nothing : (E : List Delivery) → flat_map (asks_of b p) E ≡ []
  asked-nothing [] = refl
  asked-nothing (d ∷ E) = ap (λ first. first ++ flat_map (asks_of b p) E) (asks-missing d) ∙ asked-nothing E

  taken-nothing : (E : List Delivery) → taken_by b p E ≡ asks.opening
  taken-nothing E = ap (asks.taken asks.opening) (asked-nothing E)

  next-nothing : (E : List Delivery) → (tables b E).next p ≡ 1
  unfolding asks.front
  next-nothing E = next-tables b E p ∙ ap asks.front (taken-nothing E)

  none_kept : (old : Bool) (row : Content → CommandRow) → option_map row (cond old None None) ≡ None
  none_kept true row = refl
  none_kept false row = refl

  row-nothing : (E : List Delivery) (number : ℕ) → (tables b E).row p number ≡ None
  unfolding tables
  row-nothing E number =
      let answer = (machine b E).answers p number in
      ap (λ (t : asks.Taken). row_at t number answer) (taken-nothing E)
      ∙ none_kept (nat_lt number (asks.front asks.opening - remembered)) (row_of (asks.front asks.opening) number answer)

-- what a building that was read says of its schedules
abbrev pub HasSoundSchedules : Building → Type 0
HasSoundSchedules b = list_all (is_sound_schedule b.points b.calendars) b.schedules ≡ true

no_panel : (b : Building) (E : List Delivery) (p : Text) → has_panel b p ≡ false → HasPanel (tables b E) p → ⊥
no_panel b E p missing here =
    let unknown = none_of (panel_named b p) (is_some-find (λ panel. bytes_eq panel.name p) b.panels ∙ missing) in
    elim here [
      | inl apart ↦ apart (next-nothing b p unknown E)
      | inr row ↦ false≢true (sym (ap is_some (row-nothing b p unknown E row.0)) ∙ row.1)
    ]

-- ---- points

first_rule : (first : Bool) (rest : Option Rule) → cond first (Some NoSuchPoint) rest ≡ None → first ≡ false
first_rule true rest e = absurd cc
first_rule false rest e = refl

is_there : (there : Bool) → not there ≡ false → there ≡ true
is_there true e = refl
is_there false e = absurd (false≢true (sym e))

-- a permitted content names a point
point_of-permitted : (points : List Point) (panel : Panel) (content : Content) → rule_of points panel content ≡ None
    → is_some (point_named points content.point) ≡ true
unfolding rule_of breaks
point_of-permitted points panel content e = is_there _ (first_rule _ _ e)

names_a_point : (b : Building) (panel : Text) (content : Content) → rule_for b panel content ≡ None
    → is_some (point_named b.points content.point) ≡ true
names_a_point b panel content e = under (panel_named b panel) e
  where
    under : (named : Option Panel) → option_map_or (λ p. rule_of b.points p content) named (Some NoSuchPoint) ≡ None
        → is_some (point_named b.points content.point) ≡ true
    under None e = absurd cc
    under (Some p) e = point_of-permitted b.points p content e

module _ (b : Building) (sound : HasSoundSchedules b) (q : Text) (missing : has_point b q ≡ false) where
  unknown : point_named b.points q ≡ None
  unknown = none_of (point_named b.points q) (is_some-find (λ point. bytes_eq point.name q) b.points ∙ missing)

  after-nothing : (places : Text → Places) (p : Text) (content : Content) → places q ≡ empty → places_after b places p content q ≡ empty
  unfolding places_after
  after-nothing places p content none = under (rule_for b p content) refl
    where
      under : (rule : Option Rule) → rule_for b p content ≡ rule → places_under rule places content q ≡ empty
      under (Some rule) e = none
      under None e = elim (cases_Bool (bytes_eq content.point q)) [
        | inl same ↦ absurd (false≢true (sym (ap is_some (ap (point_named b.points) ((bytes_eq-Decides content.point q).0 same) ∙ unknown))
            ∙ names_a_point b p content e))
        | inr other ↦ rw other none
      ]

  step-nothing : (m : Machine) (event : Event) → m.places q ≡ empty → (step b m event).places q ≡ empty
  step-nothing m (Command p number content) none = after-nothing m.places p content none
  step-nothing m (Tick moment) none = settled-no_point b q missing m (local_of b (Some moment)) sound none
  step-nothing m (Import rows) none =
      settled-no_point b q missing (with_rows b m rows) (local_of b (with_rows b m rows).last_tick) sound none

  run-nothing : (events : List Event) (m : Machine) → m.places q ≡ empty → (run b m events).places q ≡ empty
  run-nothing [] m none = none
  run-nothing (event ∷ events) m none = run-nothing events (step b m event) (step-nothing m event none)

  places-nothing : (E : List Delivery) → (tables b E).places q ≡ empty
  unfolding tables machine
  places-nothing E = run-nothing (events_after b [] E) opening_machine refl

no_point : (b : Building) → HasSoundSchedules b → (E : List Delivery) (q : Text) → has_point b q ≡ false → HasPoint (tables b E) q → ⊥
no_point b sound E q missing here = here (places-nothing b sound q missing E)

-- ---- schedules and calendars

shown-nothing : (b : Building) (q : Text) → has_schedule b q ≡ false → (events : List Event) (m : Machine) → m.shown q ≡ None
    → (run b m events).shown q ≡ None
shown-nothing b q missing [] m none = none
shown-nothing b q missing (Command p number content ∷ events) m none =
    shown-nothing b q missing events (step b m (Command p number content)) none
shown-nothing b q missing (Tick moment ∷ events) m none =
    shown-nothing b q missing events (step b m (Tick moment)) (settled-no_schedule b q missing m (local_of b (Some moment)) none)
shown-nothing b q missing (Import rows ∷ events) m none =
    shown-nothing b q missing events (step b m (Import rows))
    (settled-no_schedule b q missing (with_rows b m rows) (local_of b (with_rows b m rows).last_tick) none)

no_schedule : (b : Building) (E : List Delivery) (q : Text) → has_schedule b q ≡ false → (tables b E).shown q ≡ None
unfolding tables machine
no_schedule b E q missing = shown-nothing b q missing (events_after b [] E) opening_machine refl

settled-imported : (b : Building) (m : Machine) (local : Option LocalTime) → (settled b m local).imported ≡ m.imported
unfolding settled
settled-imported b m local = refl

imported-nothing : (b : Building) (q : Text) → has_calendar b q ≡ false → (events : List Event) (m : Machine) → m.imported q ≡ []
    → (run b m events).imported q ≡ []
imported-nothing b q missing [] m none = none
imported-nothing b q missing (Command p number content ∷ events) m none =
    imported-nothing b q missing events (step b m (Command p number content)) none
imported-nothing b q missing (Tick moment ∷ events) m none =
    imported-nothing b q missing events (step b m (Tick moment)) ((λ i. settled-imported b m (local_of b (Some moment)) i q) ∙ none)
imported-nothing b q missing (Import rows ∷ events) m none =
    let now = with_rows b m rows in
    imported-nothing b q missing events (step b m (Import rows))
    ((λ i. settled-imported b now (local_of b now.last_tick) i q) ∙ imported-no_calendar b q missing m.imported rows none)

no_calendar : (b : Building) (E : List Delivery) (q text : Text) → has_calendar b q ≡ false → (tables b E).imported q text ≡ false
unfolding tables machine
no_calendar b E q text missing = ap (list_any (bytes_eq text)) (imported-nothing b q missing (events_after b [] E) opening_machine refl)

-- ---- all names

one_of : (test : Bool) → (test ≡ false → ⊥) → IsTrue test
one_of true never = refl
one_of false never = absurd (never refl)

pub known-tables : (b : Building) → HasSoundSchedules b → (E : List Delivery) → AreKnown b (tables b E)
known-tables b sound E = record {
  panels = λ p here. one_of (has_panel b p) (λ missing. no_panel b E p missing here);
  points = λ q here. one_of (has_point b q) (λ missing. no_point b sound E q missing here);
  schedules = λ q here. one_of (has_schedule b q) (λ missing. false≢true (sym (ap is_some (no_schedule b E q missing)) ∙ here));
  calendars = λ q here. one_of (has_calendar b q) (λ missing. false≢true (sym (no_calendar b E q here.0 missing) ∙ here.1));
}

-- ---- the last tick

later-ticked : (b : Building) (last : Option ℤ) (moment : Option ℤ) → IsTrue (is_ticked b last) → IsTrue (is_ticked b moment)
    → IsTrue (is_ticked b (later_of last moment))
later-ticked b last None was now = was
later-ticked b None (Some moment) was now = now
later-ticked b (Some last) (Some moment) was now = elim (cases_Bool (int_lt last moment)) [
  | inl less ↦ rw less now
  | inr not ↦ rw not was
]

moment-ticked : (b : Building) (d : Delivery) → IsTrue (is_ticked b (moment_of b d))
moment-ticked b (delivery_of.Command panel number content) = refl
moment-ticked b (delivery_of.Skip panel upto) = refl
moment-ticked b (delivery_of.Tick moment) = elim (cases_Bool (is_moment b moment)) [
  | inl is ↦ rw is is
  | inr not ↦ rw not refl
]
moment-ticked b (delivery_of.Import rows) = refl

fold-ticked : (b : Building) (last : Option ℤ) (E : List Delivery) → IsTrue (is_ticked b last)
    → IsTrue (is_ticked b (fold (λ last delivery. later_of last (moment_of b delivery)) last E))
fold-ticked b last [] was = was
fold-ticked b last (d ∷ E) was =
    fold-ticked b (later_of last (moment_of b d)) E (later-ticked b last (moment_of b d) was (moment-ticked b d))

pub suited-tables : (b : Building) → HasSoundSchedules b → (E : List Delivery) → Suits b (tables b E)
suited-tables b sound E = record {
  names = known-tables b sound E;
  last = ap (is_ticked b) (tables-last_tick b E) ∙ fold-ticked b None E refl;
}

-- a store of such tables is not refused for what it holds
pub Opens-own : (b : Building) → HasSoundSchedules b → (E : List Delivery) (fault : StoreFault) (old new : Standing)
    → Opens b (Some fault) old new → new.is_honest → Holds b E old
    → fault ≡ BadRow → ⊥
Opens-own b sound E fault old new opens honest held is = elim (opens.bad_row honest (ap Some is)) [
  | inl unknown ↦ unknown (subst (λ (c : a_holding). Suits b c.tables) (sym held) (suited-tables b sound E))
  | inr unsound ↦ false≢true (sym unsound ∙ ap (λ (c : a_holding). c.is_sound) held)
]
