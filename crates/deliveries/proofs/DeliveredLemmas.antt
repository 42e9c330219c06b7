-- What reads and a commit leave of a delivery.
use Rattle.std.proofs.Common.{◌≡◌, ◌⊎◌, ◌++◌, true, false, List, ◌∷◌, Some, None, Ok, Err, refl, sym, ap, ◌∙◌, inl, inr, []}
use Rattle.std.proofs.lemmas.Bool.{false≢true}
use Rattle.store.specs.declared.change.Change.{Change}
use Rattle.store.specs.declared.fault.StoreFault.{StoreFault}
use Rattle.store.specs.declared.fault.StoreFault.TheVariants.{NoMemory, Failed, Shut, BadRow}
use Rattle.store.specs.Change.{with_change}
use Rattle.store.specs.Standing.{Commits, Content, Makes, Reads, Standing, sound}
use Rattle.store.proofs.ReadLemmas.{Commits-then, was_open}
use Rattle.building.specs.Building.{Building}
use Rattle.deliveries.specs.declared.delivery.Delivery.{Delivery}
use Rattle.deliveries.specs.declared.reply.Reply.{Reply}
use Rattle.deliveries.specs.Delivered.{Delivers, Holds}
use Rattle.deliveries.specs.Reply.{reply}
use Rattle.deliveries.specs.Tables.{tables}

-- a delivery that changes nothing
pub Delivers-read_only : (b : Building) (E : List Delivery) (d : Delivery) (given : Reply) (old new : Standing) → Reads None old new
    → new.is_honest
    → Holds b E old → given ≡ reply b E d → tables b (E ++ d ∷ []) ≡ tables b E → Delivers b E d (Ok given) new
Delivers-read_only b E d given old new reads honest held said same = (said, reads.kept honest (λ e. cc) ∙ (held ∙ sym (ap sound same)))

module _ (b : Building) (E : List Delivery) (d : Delivery) (change : Change) (first second third : Standing)
    (reads : Reads None first second)
    (honest : third.is_honest) (held : Holds b E first) (makes : tables b (E ++ d ∷ []) ≡ with_change change (tables b E)) where
  made-after : (old content : Content) → old ≡ sound (tables b E) → Makes change old content → content ≡ sound (tables b (E ++ d ∷ []))
  made-after old content is made =
      let all : content.is_sound ≡ true = made.is_sound (ap (λ (c : Content). c.is_sound) is) in
      let goal : content.tables ≡ tables b (E ++ d ∷ []) =
      made.tables ∙ (ap (λ (c : Content). with_change change c.tables) is ∙ sym makes) in
      λ i. record { tables = goal i; is_sound = all i }

  -- a commit behind reads that makes its change
  pub Delivers-made : (given : Reply) → Commits change None second third → given ≡ reply b E d → Delivers b E d (Ok given) third
  Delivers-made given commits said =
      let whole = Commits-then change None first second third reads commits in
      (said, made-after first.content third.content held (whole.made honest refl))

  -- or does not
  pub Delivers-not_made : (fault : StoreFault) → Commits change (Some fault) second third → Delivers b E d (Err fault) third
  Delivers-not_made fault commits = by fault (Commits-then change (Some fault) first second third reads commits)
    where
      was : first.is_shut ≡ false
      was = was_open None first second reads.goes (λ e. cc)

      by : (given : StoreFault) → Commits change (Some given) first third → Delivers b E d (Err given) third
      by NoMemory whole = whole.unchanged honest (whole.goes.goes_on (λ e. cc) ∙ was) NoMemory refl ∙ held
      by Failed whole = λ content left. either content (whole.left honest was content left)
        where
          either : (content : Content) → (content ≡ first.content) ⊎ Makes change first.content content
              → (content ≡ sound (tables b E)) ⊎ (content ≡ sound (tables b (E ++ d ∷ [])))
          either content (inl same) = inl (same ∙ held)
          either content (inr made) = inr (made-after first.content content held made)
      by Shut whole = absurd (false≢true (sym was ∙ whole.goes.shut.0 refl))
      by BadRow whole = absurd (whole.never_bad refl)
