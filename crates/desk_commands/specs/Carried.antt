-- What carrying out a plan makes.
use Rattle.std.specs.Prelude.{◌≡◌, ℕ, zero, suc, ◌+◌, ◌-◌, ◌≤◌, ◌⊎◌, Bool, true, false, ◌&&◌, nat_le, List, [], ◌∷◌, ◌++◌, Option, Some, None, Result, Ok, Err, IfOk, IfSome, ℤ}
use Rattle.std.specs.List.{All, list_all}
use Rattle.std.specs.Option.{option_map_or}
use Rattle.std.specs.Result.{result_err}
use Rattle.points.specs.declared.answer.Answer.{Answer}
use Rattle.points.specs.declared.command_row.CommandState.{CommandState}
use Rattle.points.specs.declared.command_row.CommandState.TheVariants.{Parked, Answered}
use Rattle.store.specs.declared.change.Change.{Change}
use Rattle.store.specs.declared.change.KeptRow.{KeptRow}
use Rattle.store.specs.declared.change.RowsBelow.{RowsBelow}
use Rattle.store.specs.declared.fault.StoreFault.{StoreFault}
use Rattle.store.specs.declared.fault.StoreFault.TheVariants.{BadRow}
use Rattle.store.specs.Change.{IsNumber}
use Rattle.store.specs.Standing.{ChangesOnce, Content, Goes, Standing}
use Rattle.store.specs.Tables.{Tables}
use Rattle.points.specs.Texts.{Text}
use Rattle.window.specs.declared.numbered_content.NumberedContent.{NumberedContent}
use Rattle.window.specs.declared.plan.Plan.{Plan}
use Rattle.window.specs.declared.verdict.Verdict.{Verdict}
use Rattle.window.specs.declared.verdict.Verdict.TheVariants.{Applies}
use Rattle.points.specs.declared.numbered_row.TheConstants.{LAST_NUMBER}
use Rattle.window.specs.Window.{remembered}
use Rattle.building.specs.Building.{Building}
use Rattle.deliveries.specs.declared.reply.Reply.{Reply}
use Rattle.deliveries.specs.Delivered.{KeepsImported}
use Rattle.deliveries.specs.Moved.{first_answer, moved, parked_rows}
use Rattle.deliveries.specs.Reply.{reply_on}
use Rattle.desk_commands.specs.declared.acting.Acted.{Acted}

-- what a panel's delivery may do to a store: it makes one change or none, and imports nothing
pub record MakesOnce (fault : Option StoreFault) (old new : Standing) : Type 0 where
  pub goes : Goes fault old new
  pub changes_once : ChangesOnce fault old new
  pub imported : KeepsImported old new

abbrev pub is_number : ℕ → Bool
is_number number = nat_le 1 number && nat_le number LAST_NUMBER

-- whether the numbers of a plan lie in their ranges
abbrev pub is_in_range : Plan → Bool
is_in_range plan =
    nat_le 1 plan.next && (nat_le plan.next (LAST_NUMBER + 1)
    && (list_all (λ (entry : NumberedContent). is_number entry.number) plan.apply
    && option_map_or (λ (entry : NumberedContent). is_number entry.number) plan.park true))

-- that they do
pub record IsInRange (plan : Plan) : Type 0 where
  pub least : 1 ≤ plan.next
  pub greatest : plan.next ≤ LAST_NUMBER + 1
  pub apply : All (λ (entry : NumberedContent). IsNumber entry.number) plan.apply
  pub park : IfSome plan.park (λ (entry : NumberedContent). IsNumber entry.number)

abbrev pub answer_in : CommandState → Option Answer
answer_in Parked = None
answer_in (Answered answer) = Some answer

-- the answer in the first of rows
abbrev pub first_answer_in : List KeptRow → Option Answer
first_answer_in [] = None
first_answer_in (item ∷ items) = answer_in item.row.state

-- the reply on a verdict, with the answer of the first command that is acted on: a verdict that applies has none where
-- there is no command
pub record Replies (verdict : Verdict) (next after : ℕ) (number : ℤ) (answer : Option Answer) (result : Result Reply StoreFault) :
    Type 0 where
  pub answered : IfSome answer (λ given. result ≡ Ok (reply_on verdict next after number given))
  pub other : (given : Answer) → (verdict ≡ Applies → ⊥) → result ≡ Ok (reply_on verdict next after number given)
  pub none : answer ≡ None → verdict ≡ Applies → result ≡ Err BadRow

-- what drops the rows below a number: below 0 there is none
abbrev pub dropped_below : Text → ℕ → List RowsBelow
dropped_below panel zero = []
dropped_below panel (suc number) = record { panel = panel; number = suc number } ∷ []

-- the change of a plan, with what its commands made
pub record IsChangeOf (panel : Text) (plan : Plan) (acted : Acted) (change : Change) : Type 0 where
  pub nexts : change.nexts.items ≡ record { panel = panel; next = plan.next } ∷ []
  pub rows : change.rows.items ≡ acted.rows.items ++ parked_rows panel plan.park
  pub dropped : change.dropped.items ≡ dropped_below panel (plan.next - remembered)
  pub places : change.places.items ≡ acted.places.items
  pub shown : change.shown.items ≡ []
  pub imported : change.imported.items ≡ []
  pub last_tick : change.last_tick ≡ None

-- a content with other tables
pub record Becomes (tables : Tables) (old new : Content) : Type 0 where
  pub tables_are : new.tables ≡ tables
  pub is_sound : old.is_sound ≡ true → new.is_sound ≡ true

-- a plan that applies no command, though its verdict says so
pub record Lacks (plan : Plan) : Type 0 where
  pub verdict : plan.verdict ≡ Applies
  pub apply : plan.apply ≡ []

-- what a plan's carrying out answers, and leaves
pub record Carries (building : Building) (panel : Text) (plan : Plan) (next : ℕ) (number : ℤ) (result : Result Reply StoreFault)
    (old new : Standing) : Type 0 where
  pub goes : Goes (result_err result) old new
  pub reply : new.is_honest → IfOk result (λ reply.
      Replies plan.verdict next plan.next number (first_answer building old.content.tables.places panel plan.apply) (Ok reply))
  pub made : new.is_honest → result_err result ≡ None → Becomes (moved building panel plan old.content.tables) old.content new.content
  pub unchanged : new.is_honest → new.is_shut ≡ false → (fault : StoreFault) → result_err result ≡ Some fault → new.content ≡ old.content
  pub left : new.is_honest → old.is_shut ≡ false → (content : Content) → new.may_leave content
      → (content ≡ old.content) ⊎ Becomes (moved building panel plan old.content.tables) old.content content
  pub bad_row : new.is_honest → result_err result ≡ Some BadRow
      → (old.content.is_sound ≡ false) ⊎ Lacks plan
