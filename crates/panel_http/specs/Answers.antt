-- What the desk answers to a request, and which tables it leaves, after a list of deliveries.
use Rattle.std.specs.Prelude.{◌≡◌, ◌⊎◌, List, [], ◌∷◌, ◌++◌, Option, Some, None, Result, Ok, Err}
use Rattle.std.specs.Bool.{IsTrue}
use Rattle.building.specs.Building.{Building}
use Rattle.desk.specs.DayReport.{report_text}
use Rattle.deliveries.specs.Delivered.{Holds, LeavesEither}
use Rattle.deliveries.specs.Reply.{reply}
use Rattle.deliveries.specs.Tables.{tables}
use Rattle.deliveries.specs.declared.delivery.Delivery.{Delivery}
use Rattle.deliveries.specs.declared.reply.Reply.TheVariants as reply_of
use Rattle.desk.specs.PointState.{state_of}
use Rattle.desk.specs.declared.point_state.PointState.{PointState}
use Rattle.points.specs.Rights.{point_named}
use Rattle.panel_http.specs.declared.refusal.Refusal.TheVariants.{NoRoute}
use Rattle.panel_http.specs.declared.request.Request.{Request}
use Rattle.panel_http.specs.declared.request.Request.TheVariants as asked
use Rattle.panel_http.specs.Response.{Said, Says}
use Rattle.panel_http.specs.Responses.{import_refused_said, no_day_said, no_point_said, point_said}
use Rattle.panel_http.specs.Responses.{refusal_said, reply_said, report_said}
use Rattle.panel_http.specs.declared.whole_response.Response.{Response}
use Rattle.desk_settling.specs.Calendars.{Tells}
use Rattle.store.specs.Standing.{HasRisen, Standing}
use Rattle.store.specs.Tables.{Tables}
use Rattle.points.specs.Texts.{Text}
use Rattle.store.specs.declared.fault.StoreFault.{StoreFault}
use Rattle.store.specs.declared.fault.StoreFault.TheVariants as fault
use Rattle.panel_http.specs.declared.unanswered.Unanswered.{Unanswered}
use Rattle.desk_record.specs.declared.delivering.Undelivered.{Undelivered}
use Rattle.desk_record.specs.declared.delivering.Undelivered.TheVariants as undelivered
use Rattle.panel_http.specs.declared.unanswered.Unanswered.TheVariants.{NoMemory, NoReply, NotRecorded, Store}

-- ---- what is said

abbrev pub state_said : Text → Option PointState → Said
state_said name None = no_point_said
state_said name (Some state) = point_said name state.places state.present state.priority

abbrev pub IsPointSaid : Building → Tables → Option Text → Said → Type 0
IsPointSaid building now None said = said ≡ no_point_said
IsPointSaid building now (Some name) said = said ≡ state_said name (state_of (now.places name) (point_named building.points name))

-- to a request, over the tables of the deliveries before it; the desk has no route of a view
abbrev pub IsSaid : Building → List Delivery → Request → Said → Type 0
IsSaid building earlier (asked.Refused refusal) said = said ≡ refusal_said refusal
IsSaid building earlier (asked.Delivery delivery) said = said ≡ reply_said (reply building earlier delivery)
IsSaid building earlier asked.NoPanel said = said ≡ reply_said reply_of.NoPanel
IsSaid building earlier (asked.RefusedImport fault) said = said ≡ import_refused_said fault
IsSaid building earlier (asked.Point name) said = IsPointSaid building (tables building earlier) name said
IsSaid building earlier (asked.Report None) said = said ≡ no_day_said
IsSaid building earlier (asked.Report (Some day)) said = (imported : Text → List Text) → Tells (tables building earlier).imported imported
    → said ≡ report_said (report_text building imported (tables building earlier).places day)
IsSaid building earlier (asked.View view) said = said ≡ refusal_said NoRoute

-- ---- what is left

-- the deliveries with that of a request, if it brings one
abbrev pub after : List Delivery → Request → List Delivery
after earlier (asked.Refused refusal) = earlier
after earlier (asked.Delivery delivery) = earlier ++ delivery ∷ []
after earlier asked.NoPanel = earlier
after earlier (asked.RefusedImport fault) = earlier
after earlier (asked.Point name) = earlier
after earlier (asked.Report day) = earlier
after earlier (asked.View view) = earlier

-- a store that has failed in this call is shut, and opened again it holds the one or the other; one that was shut
-- before holds what it held
pub record HasFailed (building : Building) (earlier later : List Delivery) (old now : Standing) : Type 0 where
  pub is_shut : IsTrue now.is_shut
  pub risen : HasRisen old.failures now.failures
  pub leaves : LeavesEither building earlier later now

abbrev pub StoreEnds : Building → List Delivery → List Delivery → Standing → Standing → Type 0
StoreEnds building earlier later old now = HasFailed building earlier later old now ⊎ (IsTrue old.is_shut × Holds building earlier now)

abbrev pub of_fault : StoreFault → Unanswered
of_fault fault.NoMemory = NoMemory
of_fault fault.Failed = Store
of_fault fault.Shut = Store
of_fault fault.BadRow = Store

abbrev pub of_undelivered : Undelivered → Unanswered
of_undelivered undelivered.NoMemory = NoMemory
of_undelivered undelivered.NotRecorded = NotRecorded
of_undelivered (undelivered.Store fault) = of_fault fault

-- without an answer
abbrev pub Leaves : Building → List Delivery → List Delivery → Unanswered → Standing → Standing → Type 0
Leaves building earlier later NoMemory old now = Holds building earlier now
Leaves building earlier later NoReply old now = Holds building later now
Leaves building earlier later NotRecorded old now = Holds building earlier now
Leaves building earlier later Store old now = StoreEnds building earlier later old now

-- a request is answered
abbrev pub Answers : Building → List Delivery → Request → Result Response Unanswered → Standing → Standing → Type 0
Answers building earlier request (Ok response) old now =
    (said : Said) × Says said response × IsSaid building earlier request said × Holds building (after earlier request) now
Answers building earlier request (Err unanswered) old now = Leaves building earlier (after earlier request) unanswered old now
