-- The rows of a panel after what it asks.
use Rattle.std.proofs.Common.{◌≡◌, ◌≢◌, ℕ, suc, zero, ◌+◌, ◌-◌, ◌<◌, ◌≤◌, ◌==◌, ◌++◌, true, false, cond, List, [], ◌∷◌, Option, Some, None, option_map, is_some}
use Rattle.std.proofs.Common.{refl, sym, ap, ◌∙◌, arith, inl, inr, nat_lt}
use Rattle.std.specs.Str.{bytes_eq}
use Rattle.std.proofs.lemmas.Bool.Decides.{nat_tests}
use Rattle.std.proofs.lemmas.Bool.{cases_Bool, cases_eq, cases_lt, false≢true}
use Rattle.points.specs.declared.answer.Answer.{Answer}
use Rattle.points.specs.declared.command_row.CommandState.TheVariants.{Parked, Answered}
use Rattle.points.specs.declared.content.Content.{Content}
use Rattle.points.specs.Run.{Rows}
use Rattle.store.specs.Change.{with_each, with_row, without_rows}
use Rattle.points.specs.Texts.{Text}
use Rattle.window.specs.declared.numbered_content.NumberedContent.{NumberedContent}
use Rattle.window.specs.Applied.{applied, and_at, contents_from}
use Rattle.window.specs.Plan.{parked_by}
use Rattle.window.specs.Taken.{Ask, Taken, take, content_at, is_key, front}
use Rattle.window.specs.View.{kept_at}
use Rattle.window.specs.Window.{remembered}
use Rattle.window.proofs.AppliedLemmas.{content_in-applied, content_in-applied-below, content_in-applied-past}
use Rattle.window.proofs.FrontLemmas.{IsFront-front, front-take}
use Rattle.building.specs.Building.{Building}
use Rattle.deliveries.specs.Events.{events_of}
use Rattle.deliveries.specs.Machine.{Machine, run}
use Rattle.deliveries.specs.Moved.{answered_rows, parked_rows}
use Rattle.deliveries.specs.Tables.{row_of, row_at}
use Rattle.deliveries.proofs.MachineLemmas.{Rise, bytes_eq-same, answers-apart, answers-elsewhere, rows-apart, rows-elsewhere, rows-here, with_each-append}
use Rattle.window.proofs.TakenLemmas.{content_at-below, content_at-none, content_at-past, IsParked-parked_by}

-- what is applied rises

Rise-weaker : (from least : ℕ) (entries : List NumberedContent) → from ≤ least → Rise least entries → Rise from entries
Rise-weaker from least [] below rise = tt
Rise-weaker from least (entry ∷ entries) below rise = let first = rise.0 in (omega (arith, below, first), rise.1)

Rise-and_at : (from : ℕ) (content : Option Content) (entries : List NumberedContent) → Rise (from + 1) entries
    → Rise from (and_at from content entries)
Rise-and_at from None entries rise = Rise-weaker from (from + 1) entries (omega arith) rise
Rise-and_at from (Some content) entries rise = (omega arith, rise)

Rise-contents_from : (count : ℕ) (t : Taken) (from : ℕ) → Rise from (contents_from count t from)
Rise-contents_from zero t from = tt
Rise-contents_from (suc count) t from = Rise-and_at from (content_at t from) _ (Rise-contents_from count t (from + 1))

pub Rise-applied : (old new : Taken) → Rise (front old) (applied old new)
unfolding applied
Rise-applied old new = Rise-contents_from (front new - front old) new (front old)

-- the row that is parked

pub parked-apart : (p : Text) (park : Option NumberedContent) (row : Text → Rows) (number : ℕ)
    → ((entry : NumberedContent) → park ≡ Some entry → entry.number ≢ number)
    → with_each with_row (parked_rows p park) row p number ≡ row p number
parked-apart p None row number apart = refl
parked-apart p (Some entry) row number apart =
    let other = apart entry refl in
    let differ : (entry.number == number) ≡ false = grind (arith, nat_tests) in
    rw (bytes_eq-same p, differ) refl

parked-here : (p : Text) (park : Option NumberedContent) (row : Text → Rows) (number : ℕ) (entry : NumberedContent)
    → park ≡ Some entry → entry.number ≡ number
    → with_each with_row (parked_rows p park) row p number ≡ Some (record { content = entry.content; state = Parked })
parked-here p park row number entry is same =
    let here : (entry.number == number) ≡ true = grind (arith, nat_tests) in
    rw is (rw (bytes_eq-same p, here) refl)

pub parked-elsewhere : (p q : Text) (park : Option NumberedContent) (row : Text → Rows) (number : ℕ) → bytes_eq p q ≡ false
    → with_each with_row (parked_rows p park) row q number ≡ row q number
parked-elsewhere p q None row number apart = refl
parked-elsewhere p q (Some entry) row number apart = rw apart refl

-- rows of the same content

row_of-same : (f g number : ℕ) (answer given : Answer) (held content : Option Content) → held ≡ content → answer ≡ given
    → ((c : Content) → content ≡ Some c → nat_lt f number ≡ nat_lt g number)
    → option_map (row_of f number answer) held ≡ option_map (row_of g number given) content
row_of-same f g number answer given held content same reported tests =
    ap (option_map (row_of f number answer)) same ∙ (of content tests ∙ ap (λ a. option_map (row_of g number a) content) reported)
  where
    of : (content : Option Content) → ((c : Content) → content ≡ Some c → nat_lt f number ≡ nat_lt g number)
        → option_map (row_of f number answer) content ≡ option_map (row_of g number answer) content
    of None tests = refl
    of (Some c) tests = ap (λ test. Some (record { content = c; state = cond test Parked (Answered answer) })) (tests c refl)

kept-none : (t : Taken) (number : ℕ) → content_at t number ≡ None → kept_at t number ≡ None
kept-none t number none = elim (cases_Bool (nat_lt number (front t - remembered))) [ inl old ↦ rw old refl | inr kept ↦ rw kept none ]

kept-here : (t : Taken) (number : ℕ) → nat_lt number (front t - remembered) ≡ false → kept_at t number ≡ content_at t number
kept-here t number kept = rw kept refl

some_none : {A : Type 0} (a : A) → Some a ≡ None → ⊥
some_none a e = cc

kept-since : (t : Taken) (ask : Ask) (number : ℕ) → nat_lt number (front (take t ask) - remembered) ≡ false
    → nat_lt number (front t - remembered) ≡ false
kept-since t ask number kept = let rises = front-take t ask in grind (arith, nat_tests)

module _ (b : Building) (m : Machine) (p : Text) (t : Taken) (ask : Ask) (row : Text → Rows) (number : ℕ)
    (held : row p number ≡ row_at t number (m.answers p number))
    (kept : nat_lt number (front (take t ask) - remembered) ≡ false) where
  abbrev new : Taken
  new = take t ask

  abbrev answer : Answer
  answer = (run b m (events_of p (applied t new))).answers p number

  abbrev put : Text → Rows
  put = with_each with_row (answered_rows b m.places p (applied t new)) row

  -- a number that is not acted on, and whose content stays
  unchanged : content_at new number ≡ content_at t number → put p number ≡ row p number → answer ≡ m.answers p number
      → ((c : Content) → content_at new number ≡ Some c → nat_lt (front t) number ≡ nat_lt (front new) number)
      → put p number ≡ option_map (row_of (front new) number answer) (content_at new number)
  unchanged same stays reported tests =
      stays ∙ (held ∙ row_of-same (front t) (front new) number (m.answers p number) answer (kept_at t number) (content_at new number)
      (kept-here t number (kept-since t ask number kept) ∙ sym same) (sym reported) tests)

  no_park-below : number < front new → front t ≤ number → (entry : NumberedContent) → parked_by t ask ≡ Some entry → entry.number ≢ number
  no_park-below below least entry parked =
      let stays = (IsParked-parked_by t ask entry parked).stays in
      absurd (omega (arith, stays, below, least))

  acted_on : front t ≤ number → number < front new
      → (content : Option Content) → content_at new number ≡ content
      → put p number ≡ option_map (row_of (front new) number answer) content
  acted_on least below None none =
      rows-apart b m.places p number (applied t new) row (content_in-applied t new number least below ∙ none)
      ∙ (held ∙ ap (option_map (row_of (front t) number (m.answers p number))) (kept-none t number (content_at-none t ask number none)))
  acted_on least below (Some content) found =
      let before : nat_lt (front new) number ≡ false = grind (arith, nat_tests) in
      rows-here b m p number (front t) content (applied t new) row (Rise-applied t new)
      (content_in-applied t new number least below ∙ found)
      ∙ rw before refl

  below_front : number < front t → put p number ≡ option_map (row_of (front new) number answer) (content_at new number)
  below_front below =
      let none = content_in-applied-below t new number below in
      let rises = front-take t ask in
      let before : nat_lt (front t) number ≡ false = grind (arith, nat_tests) in
      let after : nat_lt (front new) number ≡ false = grind (arith, nat_tests) in
      unchanged (content_at-below t ask number below) (rows-apart b m.places p number (applied t new) row none)
      (answers-apart b m p number (applied t new) none) (λ c e. before ∙ sym after)

  past_front : front new ≤ number → ((entry : NumberedContent) → parked_by t ask ≡ Some entry → entry.number ≢ number)
      → put p number ≡ option_map (row_of (front new) number answer) (content_at new number)
  past_front past apart =
      let rises = front-take t ask in
      let none = content_in-applied-past t new number rises past in
      unchanged (content_at-past t ask number past apart) (rows-apart b m.places p number (applied t new) row none)
      (answers-apart b m p number (applied t new) none) (λ c found.
      let missing = (IsFront-front new).missing in
      let other : front new ≢ number = λ same. false≢true (sym missing ∙ (ap (is_key new) same ∙ ap is_some found)) in
      let before : nat_lt (front t) number ≡ true = grind (arith, nat_tests) in
      let after : nat_lt (front new) number ≡ true = grind (arith, nat_tests) in
      before ∙ sym after)

  parked_at : front new ≤ number → (park : Option NumberedContent) → parked_by t ask ≡ park
      → with_each with_row (parked_rows p park) put p number ≡ option_map (row_of (front new) number answer) (content_at new number)
  parked_at past None parked = past_front past (λ entry e. absurd (some_none entry (sym e ∙ parked)))
  parked_at past (Some entry) parked =
      elim (cases_eq entry.number number) [
        | inl same ↦
            let is = IsParked-parked_by t ask entry parked in
            let stays = is.stays in
            let after = is.past in
            let above : nat_lt (front new) number ≡ true = grind (arith, nat_tests) in
            parked-here p (Some entry) put number entry refl same
            ∙ sym (ap (option_map (row_of (front new) number answer)) (ap (content_at new) (sym same) ∙ is.here) ∙ rw above refl)
        | inr other ↦
            let apart : (e : NumberedContent) → parked_by t ask ≡ Some e → e.number ≢ number =
            λ e is. other_entry e (sym is ∙ parked) other in
            parked-apart p (Some entry) put number (λ e is. apart e (parked ∙ is)) ∙ past_front past apart
      ]
    where
      other_entry : (e : NumberedContent) → Some e ≡ Some entry → entry.number ≢ number → e.number ≢ number
      other_entry e is other same = other (let one : e ≡ entry = cc in ap (λ (x : NumberedContent). x.number) (sym one) ∙ same)

  -- the rows that a plan puts, at a number that is kept
  pub rows-kept : with_each with_row (answered_rows b m.places p (applied t new) ++ parked_rows p (parked_by t ask)) row p number
      ≡ option_map (row_of (front new) number answer) (content_at new number)
  rows-kept =
      let split = ap (λ (rows : Text → Rows). rows p number)
      (with_each-append with_row (answered_rows b m.places p (applied t new)) (parked_rows p (parked_by t ask)) row) in
      split ∙ elim (cases_lt number (front t)) [
        | inl below ↦
            parked-apart p (parked_by t ask) put number (λ entry parked same.
            let past = (IsParked-parked_by t ask entry parked).past in omega (arith, past, same, below))
            ∙ below_front below
        | inr above ↦ elim (cases_lt number (front new)) [
          | inl below ↦ parked-apart p (parked_by t ask) put number (no_park-below below above)
              ∙ acted_on above below (content_at new number) refl
          | inr past ↦ parked_at past (parked_by t ask) refl
        ]
      ]

-- the rows of the panel after what it asks
pub rows-asked : (b : Building) (m : Machine) (p : Text) (t : Taken) (ask : Ask) (row : Text → Rows) (number : ℕ)
    → row p number ≡ row_at t number (m.answers p number)
    → without_rows (record { panel = p; number = front (take t ask) - remembered })
    (with_each with_row (answered_rows b m.places p (applied t (take t ask)) ++ parked_rows p (parked_by t ask)) row) p number
    ≡ row_at (take t ask) number ((run b m (events_of p (applied t (take t ask)))).answers p number)
rows-asked b m p t ask row number held =
    elim (cases_Bool (nat_lt number (front (take t ask) - remembered))) [
      | inl old ↦ rw (bytes_eq-same p, old) refl
      | inr kept ↦ rw (bytes_eq-same p, kept) (rows-kept b m p t ask row number held kept)
    ]

-- and of another one
pub rows-of_others : (b : Building) (m : Machine) (p q : Text) (t other : Taken) (ask : Ask) (row : Text → Rows) (number : ℕ)
    → bytes_eq p q ≡ false
    → row q number ≡ row_at other number (m.answers q number)
    → without_rows (record { panel = p; number = front (take t ask) - remembered })
    (with_each with_row (answered_rows b m.places p (applied t (take t ask)) ++ parked_rows p (parked_by t ask)) row) q number
    ≡ row_at other number ((run b m (events_of p (applied t (take t ask)))).answers q number)
rows-of_others b m p q t other ask row number apart held =
    let entries = applied t (take t ask) in
    rw apart (ap (λ (rows : Text → Rows). rows q number)
    (with_each-append with_row (answered_rows b m.places p entries) (parked_rows p (parked_by t ask)) row)
    ∙ (parked-elsewhere p q (parked_by t ask) _ number apart
    ∙ (rows-elsewhere b m.places p q number entries row apart
    ∙ (held ∙ ap (row_at other number) (sym (answers-elsewhere b m p q number entries apart))))))
