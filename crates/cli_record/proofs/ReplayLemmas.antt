-- A record, replayed line by line.
use Rattle.std.proofs.Common.{◌≡◌, ◌∙◌, ℕ, true, false, List, [], ◌∷◌, ◌++◌, length, Option, Some, None, is_some, option_to_list, append_assoc, append-nil, refl, sym, ap, subst, inl}
use Rattle.std.proofs.lemmas.Bool.{false≢true}
use Rattle.building.specs.Building.{Building}
use Rattle.deliveries.specs.declared.delivery.Delivery.{Delivery}
use Rattle.deliveries.specs.Delivered.{Holds}
use Rattle.delivery_json.specs.LineEnds.{IsLine}
use Rattle.desk_cli.proofs.CollectLemmas.{Collects-Collects, Collects-behind}
use Rattle.desk_cli.specs.ListLines.{Collects, tells}
use Rattle.desk_cli.specs.Replay.{lines_of}
use Rattle.store.specs.Standing.{Standing}
use Rattle.cli_record.proofs.WholeLemmas.{lines-whole, whole-more}
use Rattle.cli_record.specs.Replayed.{IsReplayed, LeavesTorn, Makes}
use Rattle.cli_record.specs.WholeLines.{IsWhole}

-- ---- a delivery more

collects-line : (b : Building) (lines : List (List ℕ)) (line : List ℕ) (made : List Delivery) (next : Option Delivery)
    → Collects b lines [] made → tells b line next → Collects b (lines ++ line ∷ []) [] (made ++ option_to_list next)
collects-line b lines line made next so_far one =
    Collects-Collects b lines (line ∷ []) [] made (made ++ option_to_list next) so_far
    (Collects-behind b (line ∷ []) made (option_to_list next) one)

module _ (b : Building) (earlier : List Delivery) where
  -- a line that tells none
  makes-none : (lines : List (List ℕ)) (line : List ℕ) (last : Option Delivery) (store : Standing) → tells b line None
      → Makes b earlier lines last store → Makes b earlier (lines ++ line ∷ []) last store
  makes-none lines line last store one so_far = record {
    made = so_far.made;
    collects = subst (λ ds. Collects b (lines ++ line ∷ []) [] ds) (append-nil (so_far.made ++ option_to_list last))
        (collects-line b lines line (so_far.made ++ option_to_list last) None so_far.collects one);
    back = so_far.back;
  }

  -- a line that tells one, which is held back once the one before it is made
  makes-next : (lines : List (List ℕ)) (line : List ℕ) (last : Option Delivery) (next : Delivery) (old new : Standing)
      → tells b line (Some next)
      → ((before : List Delivery) → Holds b before old → Holds b (before ++ option_to_list last) new)
      → Makes b earlier lines last old → Makes b earlier (lines ++ line ∷ []) (Some next) new
  makes-next lines line last next old new one made so_far = record {
    made = so_far.made ++ option_to_list last;
    collects = collects-line b lines line (so_far.made ++ option_to_list last) (Some next) so_far.collects one;
    back = record {
      holds = subst (λ ds. Holds b ds new) (append_assoc earlier so_far.made (option_to_list last)) (made (earlier ++ so_far.made) so_far.back.holds);
      none = λ is. cc;
    };
  }

  -- the same of a line that may tell one
  pub makes-left : (lines : List (List ℕ)) (line : List ℕ) (last next : Option Delivery) (store : Standing) → is_some next ≡ false
      → tells b line next → Makes b earlier lines last store → Makes b earlier (lines ++ line ∷ []) last store
  makes-left lines line last None store none one so_far = makes-none lines line last store one so_far
  makes-left lines line last (Some next) store none one so_far = absurd (false≢true (sym none))

  pub makes-some : (lines : List (List ℕ)) (line : List ℕ) (last next : Option Delivery) (old new : Standing)
      → is_some next ≡ true → tells b line next
      → ((before : List Delivery) → Holds b before old → Holds b (before ++ option_to_list last) new)
      → Makes b earlier lines last old → Makes b earlier (lines ++ line ∷ []) next new
  makes-some lines line last None old new some one made so_far = absurd (false≢true some)
  makes-some lines line last (Some next) old new some one made so_far = makes-next lines line last next old new one made so_far

-- ---- the lines so far

-- of all the bytes, those before what is left are whole lines
pub record Passing (bytes : List ℕ) (left : Option (List ℕ)) : Type 0 where
  pub passed : List ℕ
  pub rest : List ℕ
  pub left_is : left ≡ Some rest
  pub bytes_are : bytes ≡ passed ++ rest
  pub whole : IsWhole passed

-- and they were replayed
pub record Replaying (b : Building) (earlier : List Delivery) (bytes : List ℕ) (left : Option (List ℕ)) (last : Option Delivery)
    (store : Standing) : Type 0 where
  pub passing : Passing bytes left
  pub makes : Makes b earlier (lines_of passing.passed) last store

pub Passing-start : (bytes : List ℕ) (left : Option (List ℕ)) → left ≡ Some bytes → Passing bytes left
Passing-start bytes left left_is = record { passed = []; rest = bytes; left_is = left_is; bytes_are = refl; whole = inl refl }

-- nothing is made of no lines
makes-start : (b : Building) (earlier : List Delivery) (last : Option Delivery) (store : Standing) → last ≡ None → Holds b earlier store
    → Makes b earlier [] last store
makes-start b earlier last store none holds = record {
  made = [];
  collects = record { read = []; read_is = refl; added = ap option_to_list none };
  back = record { holds = subst (λ ds. Holds b ds store) (sym (append-nil earlier)) holds; none = λ is. refl };
}

pub Replaying-start : (b : Building) (earlier : List Delivery) (bytes : List ℕ) (left : Option (List ℕ)) (last : Option Delivery)
    (store : Standing) → left ≡ Some bytes → last ≡ None → Holds b earlier store → Replaying b earlier bytes left last store
unfolding Passing-start
Replaying-start b earlier bytes left last store left_is none holds =
    record { passing = Passing-start bytes left left_is; makes = makes-start b earlier last store none holds }

pub Passing-line : (bytes line : List ℕ) (left after : Option (List ℕ)) → Passing bytes left
    → ((rest : List ℕ) → left ≡ Some rest → (more : List ℕ) × (after ≡ Some more) × (rest ≡ line ++ 10 ∷ more) × IsLine line)
    → Passing bytes after
Passing-line bytes line left after p takes =
    let (more, after_is, rest_is, one) = takes p.rest p.left_is in
    record {
      passed = p.passed ++ (line ++ 10 ∷ []);
      rest = more;
      left_is = after_is;
      bytes_are =
          p.bytes_are ∙ ap (λ l. p.passed ++ l) (rest_is ∙ sym (append_assoc line (10 ∷ []) more))
          ∙ sym (append_assoc p.passed (line ++ 10 ∷ []) more);
      whole = whole-more p.passed line;
    }

pub Replaying-line : (b : Building) (earlier : List Delivery) (bytes line : List ℕ) (left after : Option (List ℕ))
    (last next : Option Delivery) (old new : Standing) → Replaying b earlier bytes left last old
    → ((rest : List ℕ) → left ≡ Some rest → (more : List ℕ) × (after ≡ Some more) × (rest ≡ line ++ 10 ∷ more) × IsLine line)
    → ((lines : List (List ℕ)) → Makes b earlier lines last old → Makes b earlier (lines ++ line ∷ []) next new)
    → Replaying b earlier bytes after next new
unfolding Passing-line
Replaying-line b earlier bytes line left after last next old new r takes makes =
    let p = r.passing in
    let one = (takes p.rest p.left_is).3 in
    record {
      passing = Passing-line bytes line left after p takes;
      makes = subst (λ lines. Makes b earlier lines next new) (sym (lines-whole p.passed line p.whole one))
          (makes (lines_of p.passed) r.makes);
    }

-- what was replayed of whole lines, behind which no line is whole
replayed-of : (b : Building) (earlier : List Delivery) (bytes whole torn : List ℕ) (last : Option Delivery) (store : Standing)
    → bytes ≡ whole ++ torn → IsWhole whole → IsLine torn → Makes b earlier (lines_of whole) last store
    → IsReplayed b earlier bytes last store
replayed-of b earlier bytes whole torn last store cut is_whole is_torn makes = record {
  made = makes.made;
  lists = record {
    whole = whole;
    cut = record { torn = torn; cut = cut; is_whole = is_whole; is_torn = is_torn };
    reported = makes.collects.read;
    parsed_is = makes.collects.read_is;
    are = makes.collects.added;
  };
  back = makes.back;
}

pub Replaying-end : (b : Building) (earlier : List Delivery) (bytes : List ℕ) (left : Option (List ℕ)) (last : Option Delivery)
    (store : Standing) → Replaying b earlier bytes left last store → ((rest : List ℕ) → left ≡ Some rest → IsLine rest)
    → IsReplayed b earlier bytes last store
Replaying-end b earlier bytes left last store r none =
    let p = r.passing in
    replayed-of b earlier bytes p.passed p.rest last store p.bytes_are p.whole (none p.rest p.left_is) r.makes

-- what was read last, where no line was whole, is what stands after the last line end
pub Passing-torn : (bytes : List ℕ) (left : Option (List ℕ)) (line : List ℕ) → Passing bytes left
    → ((rest : List ℕ) → left ≡ Some rest → IsLine rest × (line ≡ rest)) → LeavesTorn bytes (length line)
Passing-torn bytes left line p none =
    let torn = none p.rest p.left_is in
    record {
      whole = p.passed;
      cut = record { torn = p.rest; cut = p.bytes_are; is_whole = p.whole; is_torn = torn.0 };
      counted = ap length torn.1;
    }

-- no file
pub torn-none : (bytes : List ℕ) → bytes ≡ [] → LeavesTorn bytes 0
torn-none bytes nothing = record {
  whole = [];
  cut = record { torn = []; cut = nothing; is_whole = inl refl; is_torn = refl };
  counted = refl;
}

pub replayed-none : (b : Building) (earlier : List Delivery) (bytes : List ℕ) (last : Option Delivery) (store : Standing) → bytes ≡ []
    → last ≡ None → Holds b earlier store → IsReplayed b earlier bytes last store
replayed-none b earlier bytes last store nothing none holds =
    replayed-of b earlier bytes [] bytes last store refl (inl refl) (rw nothing refl) (makes-start b earlier last store none holds)
