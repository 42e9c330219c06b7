-- What is explained, printed whole or in part.
use Rattle.std.proofs.Common.{◌≡◌, ℕ, ℤ, List, [], Ok, Option, Some, ap, subst, ◌∙◌, inl, inr, ⊎_elim}
use Rattle.std.specs.Io.KnownBytes.{Appends, Keeps}
use Rattle.building.specs.Building.{Building, contents_of}
use Rattle.building.specs.BuildingFile.{building_of}
use Rattle.deliveries.specs.declared.delivery.Delivery.{Delivery}
use Rattle.desk_cli.specs.ListLines.{Collects}
use Rattle.desk_cli.specs.Replay.{lines_of, lines_until}
use Rattle.desk_cli.proofs.StopLemmas.{Keeps-Keeps}
use Rattle.points.specs.Beginnings.{AppendsStart}
use Rattle.cli_common.proofs.PrintedLemmas.{Appends-Keeps, start-Keeps}
use Rattle.desk_cli.specs.declared.question.Asked.{Asked}
use Rattle.desk_cli.specs.declared.question.Question.{Question}
use Rattle.points.specs.Texts.{Text}
use Rattle.desk_cli.specs.Until.{IsUntil}
use Rattle.desk_cli.specs.Explained.{Asks, Explains, ExplainsNoMore}
use Rattle.desk_cli.specs.Question.{Means, explanation}

-- what a run has found before it prints
pub record Found (file : List ℕ) (E : List Delivery) (list : List ℕ) (question : Question) (said : Option Text) (b : Building) (asked : Asked)
    (deliveries : List Delivery) (text : List ℕ) : Type 0 where
  pub until : Option ℤ
  pub building_is : building_of file ≡ Ok (contents_of b)
  pub asked_is : Means b question asked
  pub until_is : IsUntil b said until
  pub collects : Collects b (lines_until b until (lines_of list)) [] deliveries
  pub text_is : text ≡ explanation b E deliveries asked until

abbrev asks : (file : List ℕ) (E : List Delivery) (list : List ℕ) (question : Question) (said : Option Text) (b : Building) (asked : Asked)
    (deliveries : List Delivery) (text : List ℕ) → Found file E list question said b asked deliveries text → Asks file list question said
asks file E list question said b asked deliveries text found = record {
  building = b;
  asked = asked;
  until = found.until;
  read = found.collects.read;
  building_is = found.building_is;
  asked_is = found.asked_is;
  until_is = found.until_is;
  read_is = found.collects.read_is;
}

pub explains_whole : (file : List ℕ) (E : List Delivery) (list : List ℕ) (question : Question) (said : Option Text) (b : Building) (asked : Asked)
    (deliveries : List Delivery) (text : List ℕ) (old mid new : Option (List ℕ)) → Found file E list question said b asked deliveries text
    → Appends old mid text → Keeps mid new → Explains file E list question said old new
explains_whole file E list question said b asked deliveries text old mid new found printed kept = (
  asks file E list question said b asked deliveries text found,
  subst (λ (shown : List ℕ). Appends old new shown)
      (found.text_is ∙ ap (λ (ds : List Delivery). explanation b E ds asked found.until) found.collects.added)
      (Appends-Keeps old mid new text printed kept),
)

pub explains_start : (file : List ℕ) (E : List Delivery) (list : List ℕ) (question : Question) (said : Option Text) (b : Building) (asked : Asked)
    (deliveries : List Delivery) (text : List ℕ) (old mid new : Option (List ℕ)) → Found file E list question said b asked deliveries text
    → AppendsStart old mid text → Keeps mid new → ExplainsNoMore file E list question said old new
explains_start file E list question said b asked deliveries text old mid new found printed kept = inr (
  asks file E list question said b asked deliveries text found,
  subst (λ (shown : List ℕ). AppendsStart old new shown)
      (found.text_is ∙ ap (λ (ds : List Delivery). explanation b E ds asked found.until) found.collects.added)
      (start-Keeps old mid new text printed kept),
)

-- what is printed stays printed
pub explains-Keeps : (file : List ℕ) (E : List Delivery) (list : List ℕ) (question : Question) (said : Option Text) (old mid new : Option (List ℕ))
    → ExplainsNoMore file E list question said old mid → Keeps mid new → ExplainsNoMore file E list question said old new
explains-Keeps file E list question said old mid new printed kept = ⊎_elim
    (λ nothing. inl (Keeps-Keeps old mid new nothing kept))
    (λ some. inr (some.0, start-Keeps old mid new _ some.1 kept))
    printed
