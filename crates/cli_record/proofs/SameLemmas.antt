-- The tests of a comparison decide whether both sides have the same.
use Rattle.std.proofs.Common.{◌≡◌, ◌∙◌, ℕ, ℤ, ◌==◌, if◌then◌else◌, Bool, List, Option, slice_index, Some, None, Decides, refl, sym, ap}
use Rattle.std.specs.Option.{option_eq}
use Rattle.std.specs.Ordering.{int_eq}
use Rattle.std.specs.Str.{bytes_eq}
use Rattle.std.proofs.lemmas.Bool.Decides.{Decides-and, Decides-eqb, Decides-int_eq}
use Rattle.std.proofs.lemmas.Slice.Eq.{bytes_eq-Decides}
use Rattle.points.specs.declared.answer.Answer.{Answer}
use Rattle.points.specs.declared.answer.Answer.TheVariants.{Done, Refused}
use Rattle.points.specs.declared.command_row.CommandRow.{CommandRow}
use Rattle.points.specs.declared.command_row.CommandState.{CommandState}
use Rattle.points.specs.declared.command_row.CommandState.TheVariants.{Parked, Answered}
use Rattle.points.specs.declared.rule.Rule.{Rule}
use Rattle.points.specs.declared.rule.Rule.TheVariants.{NoSuchPoint, NotGranted, NoSuchPriority, ReservedPriority, PriorityNotGranted, OutsideKind}
use Rattle.points.specs.RuleCode.{code_of}
use Rattle.points.proofs.ContentLemmas.{content_eq-Decides}
use Rattle.points.specs.ContentEq.{content_eq}
use Rattle.cli_record.specs.Differences.{same_answer, same_row, same_shown, same_state, same_value}

option-Decides : {A : Type 0} (same : A → A → Bool) → ((x y : A) → Decides (same x y) (x ≡ y))
    → (x y : Option A) → Decides (option_eq same x y) (x ≡ y)
option-Decides same each None None = (λ e. refl, λ e. refl)
option-Decides same each None (Some y) = (λ e. cc, λ e. cc)
option-Decides same each (Some x) None = (λ e. cc, λ e. cc)
option-Decides same each (Some x) (Some y) =
    (λ e. ap Some ((each x y).0 e), λ e. let is : x ≡ y = cc in (each x y).1 is)

pub value-Decides : (x y : Option ℤ) → Decides (same_value x y) (x ≡ y)
value-Decides = option-Decides int_eq Decides-int_eq

pub shown-Decides : (x y : Option (Option ℤ)) → Decides (same_shown x y) (x ≡ y)
shown-Decides = option-Decides same_value value-Decides

-- ---- rows

-- the rule of the digit of a code
rule_at : ℕ → Rule
rule_at digit =
    if digit == 49 then NoSuchPoint
    else (if digit == 50 then NotGranted
    else (if digit == 51 then NoSuchPriority
    else (if digit == 52 then ReservedPriority else (if digit == 53 then PriorityNotGranted else OutsideKind))))

rule_of : List ℕ → Rule
rule_of code = rule_at (slice_index code 1)

rule_of-code : (rule : Rule) → rule_of (code_of rule) ≡ rule
unfolding rule_of rule_at
rule_of-code NoSuchPoint = refl
rule_of-code NotGranted = refl
rule_of-code NoSuchPriority = refl
rule_of-code ReservedPriority = refl
rule_of-code PriorityNotGranted = refl
rule_of-code OutsideKind = refl

rule-Decides : (rule other : Rule) → Decides (bytes_eq (code_of rule) (code_of other)) (rule ≡ other)
rule-Decides rule other =
    let codes = bytes_eq-Decides (code_of rule) (code_of other) in
    (λ e. sym (rule_of-code rule) ∙ ap rule_of (codes.0 e) ∙ rule_of-code other, λ e. codes.1 (ap code_of e))

answer-Decides : (x y : Answer) → Decides (same_answer x y) (x ≡ y)
answer-Decides (Done present priority) (Done other at) =
    let parts = Decides-and (int_eq present other) (priority == at) (Decides-int_eq present other) (Decides-eqb priority at) in (
      λ e i. Done ((parts.0 e).0 i) ((parts.0 e).1 i),
      λ e. let value : present ≡ other = cc in let place : priority ≡ at = cc in parts.1 (value, place),
    )
answer-Decides (Done present priority) (Refused rule) = (λ e. cc, λ e. cc)
answer-Decides (Refused rule) (Done present priority) = (λ e. cc, λ e. cc)
answer-Decides (Refused rule) (Refused other) =
    (λ e. ap Refused ((rule-Decides rule other).0 e), λ e. let is : rule ≡ other = cc in (rule-Decides rule other).1 is)

state-Decides : (x y : CommandState) → Decides (same_state x y) (x ≡ y)
state-Decides Parked Parked = (λ e. refl, λ e. refl)
state-Decides Parked (Answered answer) = (λ e. cc, λ e. cc)
state-Decides (Answered answer) Parked = (λ e. cc, λ e. cc)
state-Decides (Answered answer) (Answered other) =
    (λ e. ap Answered ((answer-Decides answer other).0 e), λ e. let is : answer ≡ other = cc in (answer-Decides answer other).1 is)

pub row-Decides : (x y : Option CommandRow) → Decides (same_row x y) (x ≡ y)
row-Decides None None = (λ e. refl, λ e. refl)
row-Decides None (Some row) = (λ e. cc, λ e. cc)
row-Decides (Some row) None = (λ e. cc, λ e. cc)
row-Decides (Some row) (Some other) =
    let parts = Decides-and (content_eq row.content other.content) (same_state row.state other.state)
    (content_eq-Decides row.content other.content) (state-Decides row.state other.state) in (
      λ e i. Some (record { content = (parts.0 e).0 i; state = (parts.0 e).1 i }),
      λ e. let is : row ≡ other = cc in
          parts.1 (ap (λ (r : CommandRow). r.content) is, ap (λ (r : CommandRow). r.state) is),
    )
