-- The reply to a panel that a JSON object tells.
use Rattle.std.specs.Prelude.{ℕ, ℤ, ◌^◌, nat_lt, if◌then◌else◌, List, Option, Some, None, codes}
use Rattle.std.specs.Str.{bytes_eq}
use Rattle.serde_json.specs.Data.{Data}
use Rattle.serde_json.specs.Find.{as_number, as_str, as_u64, get}
use Rattle.points.specs.declared.answer.Answer.TheVariants.{Done, Refused}
use Rattle.points.specs.declared.rule.Rule.{Rule}
use Rattle.points.specs.declared.rule.Rule.TheVariants.{NoSuchPoint, NotGranted, NoSuchPriority, ReservedPriority}
use Rattle.points.specs.declared.rule.Rule.TheVariants.{PriorityNotGranted, OutsideKind}
use Rattle.deliveries.specs.declared.reply.Reply.{Reply}
use Rattle.deliveries.specs.declared.reply.Reply.TheVariants.{Answered, BadNumber, Differs, Forgotten, NoPanel, Parked, SkipDone}
use Rattle.deliveries.specs.declared.reply.Reply.TheVariants.{Skipped, TooFar}
use Rattle.delivery_json.specs.Readings.{integer_in}
use Rattle.points.specs.Steps.{◌>>=◌, where_holds}

-- the whole number under a key, and one that is not below 0
abbrev pub whole_in : List ℕ → Data → Option ℤ
whole_in key d = get key d >>= integer_in

abbrev pub count_in : List ℕ → Data → Option ℕ
count_in key d = get key d >>= as_number >>= as_u64

abbrev pub text_in : List ℕ → Data → Option (List ℕ)
text_in key d = get key d >>= as_str

-- the rule of a code
abbrev pub rule_of : List ℕ → Option Rule
rule_of code =
    if bytes_eq code (codes "X1") then Some NoSuchPoint
    else (if bytes_eq code (codes "X2") then Some NotGranted
    else (if bytes_eq code (codes "X3") then Some NoSuchPriority
    else (if bytes_eq code (codes "X4") then Some ReservedPriority
    else (if bytes_eq code (codes "X5") then Some PriorityNotGranted
    else (if bytes_eq code (codes "X6") then Some OutsideKind else None)))))

unfoldable pub done_in : Data → Option Reply
done_in d = do
  number ← whole_in (codes "number") d
  present ← whole_in (codes "present") d
  priority ← count_in (codes "priority") d
  where_holds (nat_lt priority (2 ^ 8)) (Answered number (Done present priority))

unfoldable pub refused_in : Data → Option Reply
refused_in d = do
  number ← whole_in (codes "number") d
  code ← text_in (codes "rule") d
  rule ← rule_of code
  Some (Answered number (Refused rule))

unfoldable pub parked_in : Data → Option Reply
parked_in d = do
  next ← count_in (codes "next") d
  number ← whole_in (codes "number") d
  Some (Parked next number)

unfoldable pub too_far_in : Data → Option Reply
too_far_in d = do
  next ← count_in (codes "next") d
  number ← whole_in (codes "number") d
  Some (TooFar next number)

unfoldable pub skip_in : Data → Option Reply
skip_in d = do
  next ← count_in (codes "next") d
  Some (SkipDone next)

unfoldable pub skipped_in : Data → Option Reply
skipped_in d = do
  number ← whole_in (codes "number") d
  Some (Skipped number)

unfoldable pub forgotten_in : Data → Option Reply
forgotten_in d = do
  number ← whole_in (codes "number") d
  Some (Forgotten number)

unfoldable pub differs_in : Data → Option Reply
differs_in d = do
  number ← whole_in (codes "number") d
  Some (Differs number)

-- by its key `answer`
abbrev pub waiting_of : List ℕ → Data → Option Reply
waiting_of answer d =
    if bytes_eq answer (codes "parked") then parked_in d
    else (if bytes_eq answer (codes "too_far") then too_far_in d
    else (if bytes_eq answer (codes "skip") then skip_in d
    else (if bytes_eq answer (codes "no_panel") then Some NoPanel
    else (if bytes_eq answer (codes "bad_number") then Some BadNumber else None))))

abbrev pub reply_of : List ℕ → Data → Option Reply
reply_of answer d =
    if bytes_eq answer (codes "done") then done_in d
    else (if bytes_eq answer (codes "refused") then refused_in d
    else (if bytes_eq answer (codes "skipped") then skipped_in d
    else (if bytes_eq answer (codes "forgotten") then forgotten_in d
    else (if bytes_eq answer (codes "differs") then differs_in d else waiting_of answer d))))

unfoldable pub reply_in : Data → Option Reply
reply_in d = do
  answer ← text_in (codes "answer") d
  reply_of answer d
