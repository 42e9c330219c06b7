-- What a run may rely on, over both ends.
use Rattle.std.proofs.Common.{◌≡◌, ◌⊎◌, ℕ, ◌+◌, ◌≤◌, List, [], ◌∷◌, Option, Some, None, IfSome}
use Rattle.std.proofs.Common.{refl, sym, ap, ◌∙◌, subst, arith, inl, inr}
use Rattle.std.proofs.lemmas.Bool.{cases_eq, cases_lt}
use Rattle.points.specs.declared.content.Content.{Content}
use Rattle.points.specs.Texts.{Text}
use Rattle.window.specs.declared.numbered_content.NumberedContent.{NumberedContent}
use Rattle.window.specs.Taken.{content_in, front}
use Rattle.building.specs.Building.{Building}
use Rattle.deliveries.specs.declared.delivery.Delivery.{Delivery}
use Rattle.deliveries.specs.Accepted.{taken_by}
use Rattle.deliveries.specs.declared.reply.Reply.{Reply}
use Rattle.deliveries.specs.declared.reply.Reply.TheVariants.{Answered, Differs, Forgotten, Skipped}
use Rattle.panel.specs.Laws.{AreEnded, IsEnded}
use Rattle.panel.specs.Life.{IsPassed, RiseFrom, WereSent, from_number}
use Rattle.panel.specs.Means.{Came, Means, commands_done, ended_by}
use Rattle.panel.proofs.ContentLemmas.{content_in-apart, content_in-here, content_in-least, same-entries}
use Rattle.panel.proofs.PressedLemmas.{commands-pressed}
use Rattle.panel.proofs.ReplyLemmas.{replies-are-true}
use Rattle.panel.proofs.RestLemmas.{at-rest}
use Rattle.panel.specs.Run.{Run, Began, Pressed, Kept, Heard, GaveUp, entry_of, first_number, given_up, in_flight, kept, life}
use Rattle.panel.specs.Run.{next_number, pressed, without}
use Rattle.panel.specs.Upheld.{AllCame, AllIsDone, HasEnded, IsTrueOf, IsUpheld, Upheld}
use Rattle.panel.proofs.EntryLemmas.{Between-rise, content_in-without, found-is, found-some}
use Rattle.panel.proofs.RunLemmas.{below-push, in_flight-between, in_flight-pressed, kept-is, kept-rise, pressed-between}
use Rattle.panel.proofs.RunLemmas.{pressed-more, same-push}

none_content : (content : Content) → None ≡ Some content → ⊥
none_content content e = cc

none_number : (n : ℕ) → None ≡ Some n → ⊥
none_number n e = cc

none_entry : (command : NumberedContent) → None ≡ Some command → ⊥
none_entry command e = cc

same_content : (x y : Content) → Some x ≡ Some y → x ≡ y
same_content x y e = cc

-- ---- one reply

-- the command that a reply ends was in flight under that number
record Ends (run : Run) (command : NumberedContent) (given : Reply) : Type 0 where
  ends : ended_by given ≡ Some command.number
  was_pressed : content_in (pressed run) command.number ≡ Some command.content
  own : first_number run ≤ command.number

own-number : (run : Run) (number : ℕ) (content : Content) → content_in (pressed run) number ≡ Some content → first_number run ≤ number
own-number run number content found =
    content_in-least (first_number run) number content (pressed run)
    (Between-rise (first_number run) (next_number run) (pressed run) (pressed-between run)) found

ends-by : (run : Run) (command : NumberedContent) (given : Reply) (ended : Option ℕ) → ended_by given ≡ ended
    → entry_of ended (in_flight run) ≡ Some command → Ends run command given
ends-by run command given None is found = absurd (none_entry command found)
ends-by run command given (Some number) is found =
    let entry = found-is (in_flight run) number command found in
    let flying : content_in (in_flight run) command.number ≡ Some command.content =
    ap (content_in (in_flight run)) entry.number_is ∙ entry.content_is in
    let was = in_flight-pressed run command.number command.content flying in
    record {
      ends = is ∙ ap Some (sym entry.number_is);
      was_pressed = was;
      own = own-number run command.number command.content was;
    }

means-of : (b : Building) (p : Text) (ds : List Delivery) (run : Run) (command : NumberedContent) (given : Reply) → 1 ≤ first_number run
    → WereSent (life run) p ds → Came b p ds given → Ends run command given → Means b p ds (life run) command.number command.content given
means-of b p ds run command given least sent came is =
    let own = is.own in
    let reported = replies-are-true b (life run) p ds command.number given sent came is.ends (omega (arith, least, own)) own in
    let was = kept-is run command.number reported.content reported.pressed in
    let same : reported.content ≡ command.content = same_content reported.content command.content (sym was.was_pressed ∙ is.was_pressed) in
    subst (λ (c : Content). Means b p ds (life run) command.number c given) same reported.means

pub is-true-of : (p : Text) (run : Run) (given : Reply) (command : NumberedContent) → 1 ≤ first_number run
    → entry_of (ended_by given) (in_flight run) ≡ Some command → IsTrueOf p run given command
is-true-of p run given command least found b ds sent came =
    means-of b p ds run command given least sent came (ends-by run command given (ended_by given) refl found)

pub true-if-found : (p : Text) (run : Run) (given : Reply) (found : Option NumberedContent) → 1 ≤ first_number run
    → entry_of (ended_by given) (in_flight run) ≡ found → IfSome found (λ command. IsTrueOf p run given command)
true-if-found p run given None least is = tt
true-if-found p run given (Some command) least is = is-true-of p run given command least is

-- ---- each reply that was heard

record Has (b : Building) (p : Text) (ds : List Delivery) (run : Run) (command : NumberedContent) (given : Reply) : Type 0 where
  came : Came b p ds given
  facts : Ends run command given

-- of the run as it stands now
Ends-pressed : (run : Run) (content : Content) (command : NumberedContent) (given : Reply) → Ends run command given
    → Ends (Pressed run content) command given
Ends-pressed run content command given is = record {
  ends = is.ends;
  was_pressed = pressed-more run content command.number command.content is.was_pressed;
  own = is.own;
}

has-ended : (b : Building) (p : Text) (ds : List Delivery) (run : Run) (command : NumberedContent) (given : Reply)
    → HasEnded run command given → AllCame b p ds run → Has b p ds run command given
has-ended b p ds (Began first) command given ended all = absurd ended
has-ended b p ds (Pressed run content) command given ended all =
    let has = has-ended b p ds run command given ended all in
    record { came = has.came; facts = Ends-pressed run content command given has.facts }
has-ended b p ds (Kept run number) command given ended all =
    let has = has-ended b p ds run command given ended all in
    let facts = has.facts in
    record { came = has.came; facts = record { ends = facts.ends; was_pressed = facts.was_pressed; own = facts.own } }
has-ended b p ds (Heard run reply) command given (inl is) all =
    let facts = ends-by run command reply (ended_by reply) refl is.1 in
    record {
      came = subst (λ (one : Reply). Came b p ds one) (sym is.0) all.0;
      facts = record { ends = ap ended_by is.0 ∙ facts.ends; was_pressed = facts.was_pressed; own = facts.own };
    }
has-ended b p ds (Heard run reply) command given (inr more) all =
    let has = has-ended b p ds run command given more all.1 in
    let facts = has.facts in
    record { came = has.came; facts = record { ends = facts.ends; was_pressed = facts.was_pressed; own = facts.own } }
has-ended b p ds (GaveUp run number) command given ended all =
    let has = has-ended b p ds run command given ended all in
    let facts = has.facts in
    record { came = has.came; facts = record { ends = facts.ends; was_pressed = facts.was_pressed; own = facts.own } }

-- ---- what was pressed waits, or has heard its last

record HasLast (run : Run) (number : ℕ) : Type 0 where
  command : NumberedContent
  given : Reply
  number_is : command.number ≡ number
  ended : HasEnded run command given

abbrev Waits : Run → ℕ → Content → Type 0
Waits run number content = (content_in (in_flight run) number ≡ Some content) ⊎ HasLast run number

heard-last : (run : Run) (reply : Reply) (number : ℕ) → HasLast run number → HasLast (Heard run reply) number
heard-last run reply number last =
    record { command = last.command; given = last.given; number_is = last.number_is; ended = inr last.ended }

waits-heard : (run : Run) (reply : Reply) (number : ℕ) (content : Content) (ended : Option ℕ) → ended_by reply ≡ ended
    → content_in (in_flight run) number ≡ Some content
    → (content_in (without ended (in_flight run)) number ≡ Some content) ⊎ HasLast (Heard run reply) number
waits-heard run reply number content None is flying = inl flying
waits-heard run reply number content (Some other) is flying = elim (cases_eq number other) [
  | inl same ↦
      let found = found-some (in_flight run) number content flying in
      let ends : ended_by reply ≡ Some number = is ∙ ap Some (sym same) in
      inr (record {
        command = found.0;
        given = reply;
        number_is = (found-is (in_flight run) number found.0 found.1).number_is;
        ended = inl (refl, ap (λ one. entry_of one (in_flight run)) ends ∙ found.1);
      })
  | inr apart ↦ inl (content_in-without other number (in_flight run) apart ∙ flying)
]

waits : (run : Run) (number : ℕ) (content : Content) → content_in (pressed run) number ≡ Some content → Waits run number content
waits (Began first) number content found = inl found
waits (Pressed run content) number c found = elim (cases_lt number (next_number run)) [
  | inl below ↦ elim (waits run number c (sym (below-push (next_number run) number content (pressed run) below) ∙ found)) [
    | inl flying ↦ inl (below-push (next_number run) number content (in_flight run) below ∙ flying)
    | inr last ↦
        inr (record { command = last.command; given = last.given; number_is = last.number_is; ended = last.ended })
  ]
  | inr past ↦
      inl (same-push run number content (in_flight run) (pressed run) (in_flight-between run) (pressed-between run) past ∙ found)
]
waits (Kept run other) number content found = elim (waits run number content found) [
  | inl flying ↦ inl flying
  | inr last ↦ inr (record { command = last.command; given = last.given; number_is = last.number_is; ended = last.ended })
]
waits (Heard run reply) number content found = elim (waits run number content found) [
  | inl flying ↦ waits-heard run reply number content (ended_by reply) refl flying
  | inr last ↦ inr (heard-last run reply number last)
]
waits (GaveUp run other) number content found = elim (waits run number content found) [
  | inl flying ↦ inl flying
  | inr last ↦ inr (record { command = last.command; given = last.given; number_is = last.number_is; ended = last.ended })
]

-- ---- all of it

module _ (b : Building) (p : Text) (ds : List Delivery) (run : Run) (least : 1 ≤ first_number run) (sent : WereSent (life run) p ds)
    (all : AllCame b p ds run) where
  truthful : (command : NumberedContent) (given : Reply) → HasEnded run command given
      → Means b p ds (life run) command.number command.content given
  truthful command given ended =
      let has = has-ended b p ds run command given ended all in
      means-of b p ds run command given least sent has.came has.facts

  -- a last reply on a command that was not acted on says that it was given up
  passed : (number : ℕ) (content : Content) (given : Reply) → ended_by given ≡ Some number
      → content_in (commands_done b p ds) number ≡ None → Means b p ds (life run) number content given → IsPassed (given_up run) number
  passed number content (Answered is answer) ends none means = absurd (none_content content (sym none ∙ means.done))
  passed number content (Skipped is) ends none means = means.given_up
  passed number content (Forgotten is) ends none (inl done) = absurd (none_content content (sym none ∙ done))
  passed number content (Forgotten is) ends none (inr given) = given
  passed number content (Differs is) ends none means = absurd means
  passed number content other ends none means = absurd (none_number number ends)

  missing : (number : ℕ) (content : Content) → content_in (pressed run) number ≡ Some content
      → content_in (commands_done b p ds) number ≡ None
      → IsPassed (given_up run) number ⊎ (content_in (in_flight run) number ≡ Some content)
  missing number content found none = elim (waits run number content found) [
    | inl flying ↦ inr flying
    | inr last ↦
        let has = has-ended b p ds run last.command last.given last.ended all in
        let means = means-of b p ds run last.command last.given least sent has.came has.facts in
        let facts = has.facts in
        let same = last.number_is in
        inl (passed number last.command.content last.given (facts.ends ∙ ap Some same) none
        (subst (λ n. Means b p ds (life run) n last.command.content last.given) same means))
  ]

  -- at rest each press has heard its last
  last-of : in_flight run ≡ [] → (number : ℕ) (content : Content) → content_in (pressed run) number ≡ Some content
      → HasLast run number
  last-of empty number content found = elim (waits run number content found) [
    | inl flying ↦ absurd (none_content content (subst (λ (entries : List NumberedContent). content_in entries number ≡ Some content)
        empty flying))
    | inr last ↦ last
  ]

  is-ended : in_flight run ≡ [] → (number : ℕ) (content : Content) → content_in (pressed run) number ≡ Some content
      → IsEnded b p ds number
  is-ended empty number content found =
      let last = last-of empty number content found in
      let has = has-ended b p ds run last.command last.given last.ended all in
      let facts = has.facts in
      record { given = last.given; came = has.came; ends = facts.ends ∙ ap Some last.number_is }

  are-ended : (from : ℕ) (entries : List NumberedContent) → RiseFrom from entries
      → ((number : ℕ) (content : Content) → content_in entries number ≡ Some content → IsEnded b p ds number) → AreEnded b p ds entries
  are-ended from [] rise each = tt
  are-ended from (entry ∷ entries) rise each = (
    each entry.number entry.content (content_in-here entry entries entry.number refl),
    are-ended (entry.number + 1) entries rise.1 (λ number content found.
        let high = content_in-least (entry.number + 1) number content entries rise.1 found in
        each number content (content_in-apart entry entries number (λ is. omega (arith, is, high)) ∙ found)),
  )

  -- and was in the journal
  kept-all : in_flight run ≡ [] → kept run ≡ pressed run
  kept-all empty =
      same-entries (first_number run) (kept run) (pressed run) (kept-rise run)
      (Between-rise (first_number run) (next_number run) (pressed run) (pressed-between run))
      (λ number. by number (content_in (pressed run) number) refl (content_in (kept run) number) refl)
    where
      by : (number : ℕ) (found : Option Content) → content_in (pressed run) number ≡ found
          → (held : Option Content) → content_in (kept run) number ≡ held → content_in (kept run) number ≡ content_in (pressed run) number
      by number None e None is = is ∙ sym e
      by number None e (Some c) is = absurd (none_content c (sym e ∙ (kept-is run number c is).was_pressed))
      by number (Some c) e held is =
          let ended = is-ended empty number c e in
          let own = own-number run number c e in
          let reported_it = replies-are-true b (life run) p ds number ended.given sent ended.came ended.ends (omega (arith, least, own)) own in
          let was = kept-is run number reported_it.content reported_it.pressed in
          reported_it.pressed ∙ sym was.was_pressed

  done-at_rest : in_flight run ≡ [] → given_up run ≡ [] → from_number (first_number run) (commands_done b p ds) ≡ pressed run
  done-at_rest empty none =
      at-rest b (life run) p ds sent least (kept-rise run) none
      (are-ended (first_number run) (kept run) (kept-rise run)
      (λ number content found. is-ended empty number content (kept-is run number content found).was_pressed))
      ∙ kept-all empty

  upheld-here : Upheld b p ds run (in_flight run)
  upheld-here = record {
    part = commands-pressed b (life run) p ds sent;
    truthful = truthful;
    missing = missing;
    at_rest = done-at_rest;
  }

pub is-upheld : (p : Text) (run : Run) (waiting : List NumberedContent) → 1 ≤ first_number run → waiting ≡ in_flight run
    → IsUpheld p run waiting
is-upheld p run waiting least is b ds sent all =
    subst (λ (entries : List NumberedContent). Upheld b p ds run entries) (sym is) (upheld-here b p ds run least sent all)

pub all-is-done : (p : Text) (run : Run) → 1 ≤ first_number run → in_flight run ≡ [] → AllIsDone p run
all-is-done p run least empty b ds sent all none = done-at_rest b p ds run least sent all empty none

-- from the front on, what was pressed waits
pub still-flying : (b : Building) (p : Text) (ds : List Delivery) (run : Run) → 1 ≤ first_number run → WereSent (life run) p ds
    → AllCame b p ds run → (number : ℕ) (content : Content) → content_in (pressed run) number ≡ Some content
    → front (taken_by b p ds) ≤ number → content_in (in_flight run) number ≡ Some content
still-flying b p ds run least sent all number content found past = elim (waits run number content found) [
  | inl flying ↦ flying
  | inr last ↦
      let has = has-ended b p ds run last.command last.given last.ended all in
      let facts = has.facts in
      let own = facts.own in
      let reported_it = replies-are-true b (life run) p ds last.command.number last.given sent has.came facts.ends (omega (
        arith,
        least,
        own,
      )) own in
      let below = reported_it.past in
      let same = last.number_is in
      absurd (omega (arith, below, same, past))
]
