-- The deliveries of one line after another.
use Rattle.std.proofs.Common.{◌≡◌, ℕ, ℤ, ◌++◌, true, false, List, [], ◌∷◌, Option, Some, refl, sym, ap, subst, ◌∙◌, append_assoc}
use Rattle.std.proofs.lemmas.List.{append-nil}
use Rattle.building.specs.Building.{Building}
use Rattle.deliveries.specs.declared.delivery.Delivery.{Delivery}
use Rattle.delivery_json.specs.declared.parsed_line.ParsedLine.TheVariants as of
use Rattle.delivery_json.specs.DeliveryLine.{parse_line}
use Rattle.building_holidays.specs.declared.import_fault.ImportFault.{ImportFault}
use Rattle.desk_cli.specs.ListLines.{Collects, TakesLine}
use Rattle.desk_cli.specs.Replay.{deliveries_in, is_empty_line, is_past_until, lines_of, lines_until}
use Rattle.desk_cli.proofs.LineLemmas.{deliveries_in-append, lines-more, parsed_by-append, until-none, until-past}

-- ---- one line

pub collects_empty : (b : Building) (line : List ℕ) (ds : List Delivery) → is_empty_line line ≡ true → Collects b (line ∷ []) ds ds
collects_empty b line ds empty = record { read = []; read_is = rw empty refl; added = sym (append-nil ds) }

pub collects_delivery : (b : Building) (line : List ℕ) (old new : List Delivery) (d : Delivery) → is_empty_line line ≡ false
    → parse_line b line ≡ Some (of.Delivery d) → new ≡ old ++ d ∷ [] → Collects b (line ∷ []) old new
collects_delivery b line old new d some one added = record {
  read = of.Delivery d ∷ [];
  read_is = rw (some, one) refl;
  added = added;
}

pub collects_refused : (b : Building) (line : List ℕ) (ds : List Delivery) (refused : ImportFault) → is_empty_line line ≡ false
    → parse_line b line ≡ Some (of.RefusedImport refused) → Collects b (line ∷ []) ds ds
collects_refused b line ds refused some one = record {
  read = of.RefusedImport refused ∷ [];
  read_is = rw (some, one) refl;
  added = sym (append-nil ds);
}

-- ---- some lines, and then more

-- what lines add to nothing they add to anything
pub Collects-behind : (b : Building) (lines : List (List ℕ)) (earlier added : List Delivery) → Collects b lines [] added
    → Collects b lines earlier (earlier ++ added)
Collects-behind b lines earlier added more =
    record { read = more.read; read_is = more.read_is; added = ap (λ ds. earlier ++ ds) more.added }

pub Collects-Collects : (b : Building) (ls ms : List (List ℕ)) (x y z : List Delivery) → Collects b ls x y → Collects b ms y z
    → Collects b (ls ++ ms) x z
Collects-Collects b ls ms x y z first more = record {
  read = first.read ++ more.read;
  read_is = parsed_by-append b ls ms first.read more.read first.read_is more.read_is;
  added =
      more.added ∙ ap (λ ds. ds ++ deliveries_in more.read) first.added
      ∙ append_assoc x (deliveries_in first.read) (deliveries_in more.read)
      ∙ ap (λ ds. x ++ ds) (sym (deliveries_in-append first.read more.read));
}

-- of all the bytes, the deliveries of the lines before those that are left were collected
pub record Collecting (b : Building) (until : Option ℤ) (bytes : List ℕ) (left : Option (List ℕ)) (deliveries : List Delivery) : Type 0 where
  pub passed : List (List ℕ)
  pub rest : List ℕ
  pub left_is : left ≡ Some rest
  pub lines_are : lines_until b until (lines_of bytes) ≡ passed ++ lines_until b until (lines_of rest)
  pub collects : Collects b passed [] deliveries

pub Collecting-start : (b : Building) (until : Option ℤ) (bytes : List ℕ) (left : Option (List ℕ)) (deliveries : List Delivery) → left ≡ Some bytes
    → deliveries ≡ [] → Collecting b until bytes left deliveries
Collecting-start b until bytes left deliveries left_is none = record {
  passed = [];
  rest = bytes;
  left_is = left_is;
  lines_are = refl;
  collects = record { read = []; read_is = refl; added = none };
}

pub Collecting-line : (b : Building) (until : Option ℤ) (bytes line : List ℕ) (left after : Option (List ℕ)) (old new : List Delivery)
    → Collecting b until bytes left old → ((rest : List ℕ) → left ≡ Some rest → TakesLine rest true line after)
    → is_past_until b until line ≡ false → Collects b (line ∷ []) old new → Collecting b until bytes after new
Collecting-line b until bytes line left after old new p takes within more =
    let next = takes p.rest p.left_is in
    record {
      passed = p.passed ++ line ∷ [];
      rest = next.0;
      left_is = next.1;
      lines_are = lines-more b until bytes line p.passed p.rest next.0 p.lines_are next.2 within;
      collects = Collects-Collects b p.passed (line ∷ []) [] old new p.collects more;
    }

pub Collecting-end : (b : Building) (until : Option ℤ) (bytes line : List ℕ) (left after : Option (List ℕ)) (deliveries : List Delivery)
    → Collecting b until bytes left deliveries → ((rest : List ℕ) → left ≡ Some rest → TakesLine rest false line after)
    → Collects b (lines_until b until (lines_of bytes)) [] deliveries
Collecting-end b until bytes line left after deliveries p none =
    subst (λ ls. Collects b ls [] deliveries)
    (sym (p.lines_are
    ∙ ap (λ ls. p.passed ++ ls) (ap (lines_until b until) (none p.rest p.left_is) ∙ until-none b until)
    ∙ append-nil p.passed)) p.collects

-- the next line lies past the moment
pub Collecting-past : (b : Building) (until : Option ℤ) (bytes line : List ℕ) (left after : Option (List ℕ)) (deliveries : List Delivery)
    → Collecting b until bytes left deliveries → ((rest : List ℕ) → left ≡ Some rest → TakesLine rest true line after)
    → is_past_until b until line ≡ true → Collects b (lines_until b until (lines_of bytes)) [] deliveries
Collecting-past b until bytes line left after deliveries p takes past =
    let next = takes p.rest p.left_is in
    subst (λ ls. Collects b ls [] deliveries)
    (sym (p.lines_are
    ∙ ap (λ ls. p.passed ++ ls) (ap (lines_until b until) next.2 ∙ until-past b until line (lines_of next.0) past)
    ∙ append-nil p.passed)) p.collects
