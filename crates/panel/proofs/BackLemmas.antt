-- What is written of an entry is read back.
use Rattle.std.proofs.Common.{◌≡◌, ℕ, ℤ, ◌^◌, ◌<◌, pos, negsuc, true, List, Option, Some, None, refl, ◌∙◌, arith, nat_lt}
use Rattle.std.proofs.lemmas.Bool.Decides.{nat_tests}
use Rattle.serde_json.specs.Find.{as_i64, of_integer}
use Rattle.points.specs.Name.{is_name}
use Rattle.points.specs.RuleCode.{code_of}
use Rattle.points.specs.declared.answer.Answer.TheVariants.{Done, Refused}
use Rattle.points.specs.declared.content.Content.{Content}
use Rattle.points.specs.declared.rule.Rule.{Rule}
use Rattle.points.specs.declared.rule.Rule.TheVariants.{NoSuchPoint, NotGranted, NoSuchPriority, ReservedPriority}
use Rattle.points.specs.declared.rule.Rule.TheVariants.{PriorityNotGranted, OutsideKind}
use Rattle.deliveries.specs.declared.reply.Reply.{Reply}
use Rattle.deliveries.specs.declared.reply.Reply.TheVariants.{Answered, BadNumber, Differs, Forgotten, NoPanel, Parked, SkipDone}
use Rattle.deliveries.specs.declared.reply.Reply.TheVariants.{Skipped, TooFar}
use Rattle.delivery_json.specs.Readings.{value_in}
use Rattle.panel.specs.declared.entry.Entry.TheVariants.{Began, GaveUp, Heard, Pressed}
use Rattle.panel.specs.Entries.{began_in, content_in, entry_in, gave_up_in, heard_in, pressed_in}
use Rattle.panel.specs.EntryData.{EntriesReadBack, IsOfPanel, IsWord, IsWordOrNone, entry_data, reply_data, value_data}
use Rattle.panel.specs.Replies.{differs_in, done_in, forgotten_in, parked_in, refused_in, reply_in, rule_of, skip_in}
use Rattle.panel.specs.Replies.{skipped_in, too_far_in}

word-back : (z : ℤ) → IsWord z → as_i64 (of_integer z) ≡ Some z
word-back (pos n) is = let test : nat_lt n (2 ^ 63) ≡ true = grind (arith, nat_tests) in rw test refl
word-back (negsuc n) is = refl

rule-back : (rule : Rule) → rule_of (code_of rule) ≡ Some rule
rule-back NoSuchPoint = refl
rule-back NotGranted = refl
rule-back NoSuchPriority = refl
rule-back ReservedPriority = refl
rule-back PriorityNotGranted = refl
rule-back OutsideKind = refl

done-back : (reported present : ℤ) (priority : ℕ) → IsWord reported → IsWord present → priority < 2 ^ 8
    → reply_in (reply_data (Answered reported (Done present priority))) ≡ Some (Answered reported (Done present priority))
unfolding reply_in done_in
done-back reported present priority is value small =
    let test : nat_lt priority (2 ^ 8) ≡ true = grind (arith, nat_tests) in
    rw (word-back reported is, word-back present value, test) refl

refused-back : (reported : ℤ) (rule : Rule) → IsWord reported
    → reply_in (reply_data (Answered reported (Refused rule))) ≡ Some (Answered reported (Refused rule))
unfolding reply_in refused_in
refused-back reported rule is = rw (word-back reported is, rule-back rule) refl

reply-back : (reply : Reply) → IsOfPanel reply → reply_in (reply_data reply) ≡ Some reply
unfolding reply_in skipped_in forgotten_in differs_in parked_in too_far_in skip_in
reply-back (Answered reported (Done present priority)) is = done-back reported present priority is.0 is.1.0 is.1.1
reply-back (Answered reported (Refused rule)) is = refused-back reported rule is.0
reply-back (Skipped reported) is = rw (word-back reported is) refl
reply-back (Forgotten reported) is = rw (word-back reported is) refl
reply-back (Differs reported) is = rw (word-back reported is) refl
reply-back (Parked next reported) is = rw (word-back reported is) refl
reply-back (TooFar next reported) is = rw (word-back reported is) refl
reply-back (SkipDone next) is = refl
reply-back NoPanel is = refl
reply-back BadNumber is = refl
reply-back other is = absurd is

value-back : (value : Option ℤ) → IsWordOrNone value → value_in (value_data value) ≡ Some value
value-back None is = refl
value-back (Some value) is = rw (word-back value is) refl

-- an object with the key `answer` is read as a reply
heard-back : (reply : Reply) → IsOfPanel reply → heard_in (reply_data reply) ≡ Some (Heard reply)
unfolding heard_in
heard-back reply is = rw (reply-back reply is) refl

heard-entry : (reply : Reply) → IsOfPanel reply → entry_in (reply_data reply) ≡ heard_in (reply_data reply)
unfolding entry_in
heard-entry (Answered reported (Done present priority)) is = refl
heard-entry (Answered reported (Refused rule)) is = refl
heard-entry (Skipped reported) is = refl
heard-entry (Forgotten reported) is = refl
heard-entry (Differs reported) is = refl
heard-entry (Parked next reported) is = refl
heard-entry (TooFar next reported) is = refl
heard-entry (SkipDone next) is = refl
heard-entry NoPanel is = refl
heard-entry BadNumber is = refl
heard-entry other is = absurd is

began-back : (panel : List ℕ) (first : ℕ) → is_name panel ≡ true → entry_in (entry_data (Began panel first)) ≡ Some (Began panel first)
unfolding entry_in began_in
began-back panel first is = rw is refl

pressed-back : (reported : ℕ) (content : Content) → is_name content.point ≡ true → IsWord content.priority → IsWordOrNone content.value
    → entry_in (entry_data (Pressed reported content)) ≡ Some (Pressed reported content)
unfolding entry_in pressed_in content_in
pressed-back reported content is priority value = rw (is, word-back content.priority priority, value-back content.value value) refl

gave_up-back : (reported : ℕ) → entry_in (entry_data (GaveUp reported)) ≡ Some (GaveUp reported)
unfolding entry_in gave_up_in
gave_up-back reported = refl

pub entries-read-back : EntriesReadBack
entries-read-back (Began panel first) is = began-back panel first is
entries-read-back (Pressed reported content) is = pressed-back reported content is.0 is.1 is.2
entries-read-back (Heard reply) is = heard-entry reply is ∙ heard-back reply is
entries-read-back (GaveUp reported) is = gave_up-back reported
