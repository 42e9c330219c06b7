-- A beginning of a line that is written.
use Rattle.std.proofs.Common.{◌≡◌, ℕ, ◌+◌, ◌-◌, ◌≤◌, ◌==◌, ◌||◌, ℤ, Bool, true, false, List, ◌++◌, length, take, drop, codes, refl, sym, ap, ◌∙◌, arith, inl, inr}
use Rattle.std.specs.Bool.{IsTrue}
use Rattle.std.specs.List.{starts_with}
use Rattle.std.proofs.lemmas.Bool.{cases_lt}
use Rattle.std.proofs.lemmas.Bool.Decides.{Decides-eqb}
use Rattle.std.proofs.lemmas.List.{take-append-drop, take-append-le}
use Rattle.std.proofs.lemmas.Slice.Eq.{starts_is}
use Rattle.std.proofs.Math.Seq.{take-append-add}
use Rattle.deliveries.specs.declared.delivery.Delivery.TheVariants.{Command, Import, Skip, Tick}
use Rattle.delivery_json.specs.DeliveryText.{command_line, delivery_line}
use Rattle.points.specs.declared.content.Content.{Content}
use Rattle.desk_record.specs.Torn.{EachBeginningMayBeTorn, begin_alike, may_be_torn}

or-right : (a b : Bool) → b ≡ true → a || b ≡ true
or-right true b is = refl
or-right false b is = is

or-left : (a b : Bool) → a ≡ true → a || b ≡ true
or-left a b is = rw is refl

starts : (bytes head rest : List ℕ) → bytes ≡ head ++ rest → starts_with (λ a b. a == b) bytes head ≡ true
starts bytes head rest is = (starts_is Decides-eqb bytes head _ refl).1 rest is

begins : (head rest : List ℕ) (count : ℕ) → begin_alike head (take count (head ++ rest)) ≡ true
begins head rest count =
    let part = take count (head ++ rest) in
    elim (cases_lt count (length head)) [
      | inl short ↦
          let within : count ≤ length head = omega (arith, short) in
          let is : head ≡ part ++ drop count head =
          sym (take-append-drop count head) ∙ ap (λ front. front ++ drop count head) (sym (take-append-le count head rest within)) in
          or-left (starts_with (λ a b. a == b) head part) (starts_with (λ a b. a == b) part head) (starts head part (drop count head) is)
      | inr long ↦
          let sum : count ≡ length head + (count - length head) = omega (arith, long) in
          let is : part ≡ head ++ take (count - length head) rest =
          ap (λ n. take n (head ++ rest)) sum ∙ take-append-add head rest (count - length head) in
          or-right (starts_with (λ a b. a == b) head part) (starts_with (λ a b. a == b) part head)
          (starts part head (take (count - length head) rest) is)
    ]

-- ---- of each kind of line

of-command : (panel : List ℕ) (number : ℤ) (content : Content) (count : ℕ) → IsTrue (may_be_torn (take count (command_line panel number content)))
unfolding command_line
of-command panel number content count =
    let line = command_line panel number content in
    or-left (begin_alike (codes "{\"number\":") (take count line)) _ (begins (codes "{\"number\":") _ count)

or-second : (a b c : Bool) → b ≡ true → a || (b || c) ≡ true
or-second a b c is = or-right a (b || c) (or-left b c is)

or-third : (a b c d : Bool) → c ≡ true → a || (b || (c || d)) ≡ true
or-third a b c d is = or-right a (b || (c || d)) (or-second b c d is)

or-fourth : (a b c d e : Bool) → d ≡ true → a || (b || (c || (d || e))) ≡ true
or-fourth a b c d e is = or-right a (b || (c || (d || e))) (or-third b c d e is)

pub each-beginning : EachBeginningMayBeTorn
each-beginning b (Command panel number content) count = of-command panel number content count
each-beginning b (Skip panel upto) count =
    let bytes = take count (delivery_line b (Skip panel upto)) in
    or-second (begin_alike (codes "{\"number\":") bytes) (begin_alike (codes "{\"panel\":\"") bytes) _ (begins (codes "{\"panel\":\"") _ count)
each-beginning b (Tick moment) count =
    let bytes = take count (delivery_line b (Tick moment)) in
    or-third (begin_alike (codes "{\"number\":") bytes) (begin_alike (codes "{\"panel\":\"") bytes) (begin_alike (codes "{\"tick\":") bytes) _
    (begins (codes "{\"tick\":") _ count)
each-beginning b (Import rows) count =
    let bytes = take count (delivery_line b (Import rows)) in
    or-fourth (begin_alike (codes "{\"number\":") bytes) (begin_alike (codes "{\"panel\":\"") bytes) (begin_alike (codes "{\"tick\":") bytes)
    (begin_alike (codes "{\"import\":\"") bytes) _ (begins (codes "{\"import\":\"") (codes "calendar,entry\\n" ++ _) count)
