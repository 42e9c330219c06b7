-- What a user asks of a list.
use Rattle.std.specs.Prelude.{◌≡◌, ℕ, ℤ, List, ◌++◌, Option, Some, option_and_then}
use Rattle.building.specs.Building.{Building}
use Rattle.deliveries.specs.declared.delivery.Delivery.{Delivery}
use Rattle.deliveries.specs.Events.{machine}
use Rattle.desk_cli.specs.declared.question.Asked.{Asked}
use Rattle.desk_cli.specs.declared.question.Asked.TheVariants as asked
use Rattle.desk_cli.specs.declared.question.Question.{Question}
use Rattle.desk_cli.specs.declared.question.Question.TheVariants as question
use Rattle.desk_cli.specs.Until.{IsUntil, said_in, until_line}
use Rattle.desk_overrides.specs.Lines.{overrides_text}
use Rattle.desk_why.specs.Authors.{places_of}
use Rattle.desk_why.specs.NextChanges.{next_changes}
use Rattle.desk_why.specs.WhyLines.{why_text}
use Rattle.points.specs.declared.point.Point.{Point}
use Rattle.points.specs.PriorityArray.{present_of}
use Rattle.points.specs.Rights.{point_named}
use Rattle.points.specs.Texts.{name_of}

-- the point that a word names
abbrev pub point_of : Building → List ℕ → Option Point
point_of building word = option_and_then (point_named building.points) (name_of word)

-- what the words of a question mean of a building
abbrev pub Means : Building → Question → Asked → Type 0
Means building (question.Why word) (asked.Why point) = point_of building word.now ≡ Some point.now
Means building (question.Overrides said) (asked.Overrides from) = IsUntil building (said_in said) from
Means building (question.Why word) (asked.Overrides from) = ⊥
Means building (question.Overrides said) (asked.Why point) = ⊥

-- what a point presents, what its places hold and by whom, and when the schedules that target it change next
abbrev pub why : Building → (earlier deliveries : List Delivery) → Point → List ℕ
why building earlier deliveries point = why_text building point
    (present_of ((machine building (earlier ++ deliveries)).places point.name) point.relinquish_default)
    (places_of building earlier deliveries point.name)
    (next_changes building (earlier ++ deliveries) point.name)

-- what is asked, after the deliveries of a record, which begins behind earlier ones
abbrev pub answer : Building → (earlier deliveries : List Delivery) → Asked → List ℕ
answer building earlier deliveries (asked.Why point) = why building earlier deliveries point.now
answer building earlier deliveries (asked.Overrides from) = overrides_text building earlier deliveries from

-- up to a moment, and which moment that was
abbrev pub explanation : Building → (earlier deliveries : List Delivery) → Asked → Option ℤ → List ℕ
explanation building earlier deliveries asked until = answer building earlier deliveries asked ++ until_line building until
