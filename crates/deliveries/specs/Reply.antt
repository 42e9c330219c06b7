-- The reply to each command, skip, tick and import, from the building and the earlier deliveries.
use Rattle.std.specs.Prelude.{ℕ, ◌+◌, ◌-◌, not, if◌then◌else◌, List, [], ◌∷◌, ◌++◌, length, position, Option, Some, None, option_map, ℤ, pos}
use Rattle.std.specs.Option.{option_map_or}
use Rattle.points.specs.declared.answer.Answer.{Answer}
use Rattle.points.specs.declared.command_row.CommandState.TheVariants as state
use Rattle.points.specs.declared.panel.Panel.{Panel}
use Rattle.window.specs.declared.verdict.Verdict.{Verdict}
use Rattle.window.specs.declared.verdict.Verdict.TheVariants as verdict
use Rattle.window.specs.Taken as asks
use Rattle.window.specs.Verdict.{verdict_of}
use Rattle.window.specs.View.{row_asked}
use Rattle.building.specs.Building.{Building}
use Rattle.deliveries.specs.declared.delivery.Delivery.{Delivery}
use Rattle.deliveries.specs.declared.delivery.Delivery.TheVariants.{Command, Skip, Tick, Import}
use Rattle.deliveries.specs.declared.reply.Reply.{Reply}
use Rattle.deliveries.specs.declared.reply.Reply.TheVariants as answer_of
use Rattle.deliveries.specs.Accepted.{asked, panel_named, panel_of, taken_by}
use Rattle.deliveries.specs.Events.{has_calendar, is_later, is_moment, last_tick_of, machine}
use Rattle.deliveries.specs.Machine.{Machine, added, with_rows, writes_of}
use Rattle.sched.specs.declared.calendar.CalendarEntry.{CalendarEntry}
use Rattle.deliveries.specs.Tables.{tables}

-- the number that a delivery is answered with
abbrev pub number_in_reply : Delivery → ℤ
number_in_reply (Command panel number content) = number
number_in_reply (Skip panel upto) = upto
number_in_reply (Tick at) = at
number_in_reply (Import rows) = pos 0

-- The reply on a verdict: with the next number before the delivery, the one after it, and the answer of
-- the command that it acts on.
abbrev pub reply_on : Verdict → ℕ → ℕ → ℤ → Answer → Reply
reply_on verdict.Applies next after number answer = answer_of.Answered number answer
reply_on verdict.Parked next after number answer = answer_of.Parked next number
reply_on (verdict.Repeat state.Parked) next after number answer = answer_of.Parked next number
reply_on (verdict.Repeat (state.Answered kept)) next after number answer = answer_of.Answered number kept
reply_on verdict.Skipped next after number answer = answer_of.Skipped number
reply_on verdict.Differs next after number answer = answer_of.Differs number
reply_on verdict.TooFar next after number answer = answer_of.TooFar next number
reply_on verdict.SkipDone next after number answer = answer_of.SkipDone after
reply_on verdict.Forgotten next after number answer = answer_of.Forgotten number

abbrev pub number_asked : asks.Ask → ℕ
number_asked (asks.Command number content) = number
number_asked (asks.Skip upto) = upto

-- the reply to what a panel asks: by the verdict on it, with the answer that the machine gives to its command
abbrev pub reply_to : Building → List Delivery → Delivery → asks.Ask → Reply
reply_to building earlier delivery ask =
    let panel = panel_of delivery in
    let before = taken_by building panel earlier in
    let now = earlier ++ delivery ∷ [] in
    reply_on (verdict_of before ask (row_asked ((tables building earlier).row panel) ask))
    (asks.front before) (asks.front (taken_by building panel now)) (number_in_reply delivery)
    ((machine building now).answers panel (number_asked ask))

abbrev pub reply_in_range : Building → List Delivery → Delivery → Option asks.Ask → Reply
reply_in_range building earlier delivery None = answer_of.BadNumber
reply_in_range building earlier delivery (Some ask) = reply_to building earlier delivery ask

abbrev pub reply_of_panel : Building → List Delivery → Delivery → Option Panel → Reply
reply_of_panel building earlier delivery None = answer_of.NoPanel
reply_of_panel building earlier delivery (Some panel) = reply_in_range building earlier delivery (asked delivery)

-- ---- ticks and imports

-- the reply to a tick: out of range, not later than one before it, or what its event writes
abbrev pub reply_to_tick : Building → List Delivery → ℤ → Reply
reply_to_tick building earlier moment =
    if not (is_moment building moment) then answer_of.BadMoment
    else (if is_later (last_tick_of building earlier) moment
    then answer_of.Ticked (writes_of building (machine building earlier) (Some moment))
    else answer_of.Old)

-- what an import is answered: the rows that it adds, the others, and what its event writes
abbrev pub imported_reply : Building → Machine → List CalendarEntry → Reply
imported_reply building before rows =
    let count = length (added building before.imported rows) in
    let now = with_rows building before rows in
    answer_of.Imported count (length rows - count) (writes_of building now now.last_tick)

-- the record of the first row without calendar, if there is one: the header is record 1
abbrev pub refused_record : Building → List CalendarEntry → Option ℕ
refused_record building rows = option_map (λ index. index + 2) (position (λ row. not (has_calendar building row)) rows)

abbrev pub reply_to_import : Building → List Delivery → List CalendarEntry → Reply
reply_to_import building earlier rows =
    option_map_or answer_of.ImportRefused (refused_record building rows) (imported_reply building (machine building earlier) rows)

-- ---- a delivery after earlier ones

-- the reply to a tick or an import; else that of the panel
abbrev pub reply_by_clock : Building → List Delivery → Delivery → Reply → Reply
reply_by_clock building earlier (Command panel number content) otherwise = otherwise
reply_by_clock building earlier (Skip panel upto) otherwise = otherwise
reply_by_clock building earlier (Tick moment) otherwise = reply_to_tick building earlier moment
reply_by_clock building earlier (Import rows) otherwise = reply_to_import building earlier rows

unfoldable pub reply : Building → List Delivery → Delivery → Reply
reply building earlier delivery = reply_by_clock building earlier delivery
    (reply_of_panel building earlier delivery (panel_named building (panel_of delivery)))

-- the replies to deliveries, one after the other
abbrev pub replies : Building → List Delivery → List Delivery → List Reply
replies building earlier [] = []
replies building earlier (delivery ∷ deliveries) =
    reply building earlier delivery ∷ replies building (earlier ++ delivery ∷ []) deliveries
