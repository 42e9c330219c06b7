-- The JSON object of an entry of a journal.
use Rattle.std.specs.Prelude.{◌≡◌, ℕ, ℤ, ◌^◌, ◌<◌, pos, negsuc, true, List, Option, Some, None, codes}
use Rattle.serde_json.specs.Data.{Data, member, no_members, null, number, object, string, unsigned}
use Rattle.serde_json.specs.Find.{of_integer}
use Rattle.points.specs.Name.{is_name}
use Rattle.points.specs.RuleCode.{code_of}
use Rattle.points.specs.declared.answer.Answer.{Answer}
use Rattle.points.specs.declared.answer.Answer.TheVariants.{Done, Refused}
use Rattle.deliveries.specs.declared.reply.Reply.{Reply}
use Rattle.deliveries.specs.declared.reply.Reply.TheVariants.{Answered, BadNumber, Differs, Forgotten, NoPanel, Parked, SkipDone}
use Rattle.deliveries.specs.declared.reply.Reply.TheVariants.{Skipped, TooFar}
use Rattle.panel.specs.declared.entry.Entry.{Entry}
use Rattle.panel.specs.declared.entry.Entry.TheVariants.{Began, GaveUp, Heard, Pressed}
use Rattle.panel.specs.Entries.{entry_in}

abbrev pub integer : ℤ → Data
integer n = number (of_integer n)

abbrev pub natural : ℕ → Data
natural n = number (unsigned n)

abbrev pub answer_data : ℤ → Answer → Data
answer_data given (Done present priority) = object (member (codes "answer") (string (codes "done")) (member (codes "number") (integer given)
    (member (codes "present") (integer present) (member (codes "priority") (natural priority) no_members))))
answer_data given (Refused rule) = object (member (codes "answer") (string (codes "refused")) (member (codes "number") (integer given)
    (member (codes "rule") (string (code_of rule)) no_members)))

-- an answer that tells a number alone
abbrev pub numbered_data : List ℕ → ℤ → Data
numbered_data answer given = object (member (codes "answer") (string answer) (member (codes "number") (integer given) no_members))

abbrev pub next_data : List ℕ → ℕ → ℤ → Data
next_data answer next given = object (member (codes "answer") (string answer) (member (codes "next") (natural next)
    (member (codes "number") (integer given) no_members)))

abbrev pub lone_data : List ℕ → Data
lone_data answer = object (member (codes "answer") (string answer) no_members)

-- a reply as the desk writes it; those to a tick or an import are none of a panel's
abbrev pub reply_data : Reply → Data
reply_data (Answered given answer) = answer_data given answer
reply_data (Skipped given) = numbered_data (codes "skipped") given
reply_data (Forgotten given) = numbered_data (codes "forgotten") given
reply_data (Differs given) = numbered_data (codes "differs") given
reply_data (Parked next given) = next_data (codes "parked") next given
reply_data (TooFar next given) = next_data (codes "too_far") next given
reply_data (SkipDone next) = object (member (codes "answer") (string (codes "skip")) (member (codes "next") (natural next) no_members))
reply_data NoPanel = lone_data (codes "no_panel")
reply_data BadNumber = lone_data (codes "bad_number")
reply_data other = lone_data (codes "other")

abbrev pub value_data : Option ℤ → Data
value_data None = null
value_data (Some value) = integer value

abbrev pub entry_data : Entry → Data
entry_data (Began panel first) = object (member (codes "first") (natural first) (member (codes "panel") (string panel) no_members))
entry_data (Pressed given content) = object (member (codes "number") (natural given) (member (codes "point") (string content.point)
    (member (codes "priority") (integer content.priority) (member (codes "value") (value_data content.value) no_members))))
entry_data (Heard reply) = reply_data reply
entry_data (GaveUp given) = object (member (codes "give_up") (natural given) no_members)

-- ---- what is written is read back

-- as 64 bits hold it
abbrev pub IsWord : ℤ → Type 0
IsWord (pos n) = n < 2 ^ 63
IsWord (negsuc n) = Unit {0}

abbrev pub IsWordOrNone : Option ℤ → Type 0
IsWordOrNone None = Unit {0}
IsWordOrNone (Some value) = IsWord value

abbrev pub IsAnswer : Answer → Type 0
IsAnswer (Done present priority) = IsWord present × (priority < 2 ^ 8)
IsAnswer (Refused rule) = Unit {0}

abbrev pub IsOfPanel : Reply → Type 0
IsOfPanel (Answered given answer) = IsWord given × IsAnswer answer
IsOfPanel (Skipped given) = IsWord given
IsOfPanel (Forgotten given) = IsWord given
IsOfPanel (Differs given) = IsWord given
IsOfPanel (Parked next given) = IsWord given
IsOfPanel (TooFar next given) = IsWord given
IsOfPanel (SkipDone next) = Unit {0}
IsOfPanel NoPanel = Unit {0}
IsOfPanel BadNumber = Unit {0}
IsOfPanel other = ⊥

abbrev pub IsEntry : Entry → Type 0
IsEntry (Began panel first) = is_name panel ≡ true
IsEntry (Pressed given content) = (is_name content.point ≡ true) × IsWord content.priority × IsWordOrNone content.value
IsEntry (Heard reply) = IsOfPanel reply
IsEntry (GaveUp given) = Unit {0}

-- each entry whose names are names, and whose numbers are those of a program, is read back from its object
abbrev pub EntriesReadBack : Type 0
EntriesReadBack = (entry : Entry) → IsEntry entry → entry_in (entry_data entry) ≡ Some entry
