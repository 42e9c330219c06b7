-- Deliveries one after the other.
use Rattle.std.proofs.Common.{◌≡◌, ◌⊎◌, Bool, true, ℕ, suc, zero, ◌+◌, ◌<◌, ◌++◌, false, List, [], ◌∷◌, Option, Some, None, Ok, Err, take, length}
use Rattle.std.proofs.Common.{refl, sym, ap, ◌∙◌, subst, arith, inl, inr, append_assoc}
use Rattle.std.proofs.lemmas.Bool.{false≢true}
use Rattle.std.proofs.lemmas.List.{append-nil}
use Rattle.store.specs.declared.fault.StoreFault.{StoreFault}
use Rattle.store.specs.declared.fault.StoreFault.TheVariants.{NoMemory, Failed, Shut, BadRow}
use Rattle.store.specs.declared.change.Change.{Change}
use Rattle.store.specs.Standing.{ChangesOnce, Content, Goes, HasRisen, Makes, Standing, sound}
use Rattle.building.specs.Building.{Building}
use Rattle.deliveries.specs.declared.delivery.Delivery.{Delivery}
use Rattle.deliveries.specs.declared.reply.Reply.{Reply}
use Rattle.deliveries.specs.Reply.{reply, replies}
use Rattle.deliveries.specs.Tables.{tables}
use Rattle.deliveries.specs.Delivered.{Delivers, Holds}
use Rattle.desk.specs.Headline.{ChangesEach, Ends, FollowsIn, Stands}

pub replies-push : (b : Building) (E ds : List Delivery) (d : Delivery)
    → replies b E (ds ++ d ∷ []) ≡ replies b E ds ++ reply b (E ++ ds) d ∷ []
replies-push b E [] d = ap (λ earlier. reply b earlier d ∷ []) (sym (append-nil E))
replies-push b E (x ∷ ds) d =
    ap (λ rest. reply b E x ∷ rest) (replies-push b (E ++ x ∷ []) ds d
    ∙ ap (λ earlier. replies b (E ++ x ∷ []) ds ++ reply b earlier d ∷ []) (append_assoc E (x ∷ []) ds))

-- one delivery more of a run
pub run-more : (b : Building) (E ds more : List Delivery) (d : Delivery) (reported : List Reply) (now : Standing) (one : Reply)
    → more ≡ ds ++ d ∷ [] → reported ≡ replies b E ds → Delivers b (E ++ ds) d (Ok one) now
    → (reported ++ one ∷ [] ≡ replies b E more) × Holds b (E ++ more) now
run-more b E ds more d reported now one is said delivered = (
  (λ i. said i ++ delivered.0 i ∷ []) ∙ sym (replies-push b E ds d) ∙ ap (replies b E) (sym is),
  delivered.1 ∙ ap (λ list. sound (tables b list)) (append_assoc E ds (d ∷ []) ∙ ap (λ rest. E ++ rest) (sym is)),
)

pub Stands-after : (fault : Option StoreFault) (first second third : Standing) → Stands None first second → Goes fault second third
    → Stands fault first third
Stands-after fault first second third before after = record {
  honest = λ honest. before.honest (after.honest honest);
  shut = λ reported. sym (before.goes_on (λ e. cc)) ∙ after.shut.0 reported;
  untouched = λ honest shut.
      let earlier = before.untouched (after.honest honest) shut in
      let later = after.untouched honest (before.goes_on (λ e. cc) ∙ shut) in
      record { content = later.content ∙ earlier.content; leaves = λ content left. earlier.leaves content (later.leaves content left) };
  goes_on = λ reported. after.goes_on reported ∙ before.goes_on (λ e. cc);
  steady = λ reported. after.steady reported ∙ before.steady (λ e. cc);
  failed =
      λ reported. let rises = after.failed reported in (rises.0, subst (λ count. HasRisen count third.failures) (before.steady (λ e. cc)) rises.1);
  settled = λ was. after.settled;
}

zero_or : (count : ℕ) → (count ≡ 0) ⊎ (0 < count)
zero_or zero = inl refl
zero_or (suc count) = inr (omega arith)

-- a delivery of a run that fails
pub ends-failed : (b : Building) (E ds : List Delivery) (d : Delivery) (count : ℕ) (fault : StoreFault) (old new : Standing)
    → count < length ds
    → take (count + 1) ds ≡ take count ds ++ d ∷ [] → (0 < count → old.is_shut ≡ false) → Goes (Some fault) old new
    → Delivers b (E ++ take count ds) d (Err fault) new → Ends b E ds count (Some fault) new
ends-failed b E ds d count NoMemory old new within more opened goes delivered = (within, delivered)
ends-failed b E ds d count Failed old new within more opened goes delivered =
    (within, λ content left. either content (delivered content left))
  where
    further : tables b ((E ++ take count ds) ++ d ∷ []) ≡ tables b (E ++ take (count + 1) ds)
    further = ap (tables b) (append_assoc E (take count ds) (d ∷ []) ∙ ap (λ rest. E ++ rest) (sym more))

    either : (content : Content) → (content ≡ sound (tables b (E ++ take count ds)))
        ⊎ (content ≡ sound (tables b ((E ++ take count ds) ++ d ∷ [])))
        → (content ≡ sound (tables b (E ++ take count ds))) ⊎ (content ≡ sound (tables b (E ++ take (count + 1) ds)))
    either content (inl same) = inl same
    either content (inr same) = inr (same ∙ ap sound further)
ends-failed b E ds d count Shut old new within more opened goes delivered = elim (zero_or count) [
  | inl none ↦ (none, delivered ∙ ap (λ list. sound (tables b list)) (ap (λ n. E ++ take n ds) none ∙ append-nil E))
  | inr some ↦ absurd (false≢true (sym (opened some) ∙ goes.shut.0 refl))
]
ends-failed b E ds d count BadRow old new within more opened goes delivered = delivered

-- ---- whatever the store held

-- one step more
pub follows_more : (steps : ℕ) (old mid new : Content) → FollowsIn steps old mid
    → (new ≡ mid) ⊎ ((change : Change) × Makes change mid new) → FollowsIn (steps + 1) old new
follows_more steps old mid new before step =
    let next : suc steps ≡ steps + 1 = omega arith in subst (λ n. FollowsIn n old new) next (mid, before, step)

-- a run that stopped before its first delivery, or at its end
pub changes_each_whole : (reported : List Reply) (fault : Option StoreFault) (old new : Standing) → Stands fault old new
    → (fault ≡ Some Failed → ⊥) → (new.is_honest → FollowsIn (length reported) old.content new.content)
    → ChangesEach reported fault old new
changes_each_whole reported fault old new stands going follows = record {
  held = λ honest other. follows honest;
  left = λ honest settled was content left.
      inl (subst (FollowsIn (length reported) old.content)
      (sym (stands.settled settled honest (stands.goes_on going ∙ was) content left)) (follows honest));
}

-- a run that stopped at a delivery
pub changes_each_stopped : (reported : List Reply) (count : ℕ) (fault : StoreFault) (old mid new : Standing) → length reported ≡ count
    → Stands None old mid → Goes (Some fault) mid new → ChangesOnce (Some fault) mid new
    → (mid.is_honest → FollowsIn count old.content mid.content) → ChangesEach reported (Some fault) old new
changes_each_stopped reported count fault old mid new size before goes once follows = record {
  held = λ honest going. of_steps honest (kept honest going (mid.is_shut) refl);
  left = λ honest settled was content left. either honest content (once.left honest (before.goes_on (λ e. cc) ∙ was) content left);
}
  where
    of_steps : new.is_honest → new.content ≡ mid.content → FollowsIn (length reported) old.content new.content
    of_steps honest same =
        subst (λ n. FollowsIn n old.content new.content) (sym size)
        (subst (FollowsIn count old.content) (sym same) (follows (goes.honest honest)))

    kept : new.is_honest → (Some fault ≡ Some Failed → ⊥) → (shut : Bool) → mid.is_shut ≡ shut → new.content ≡ mid.content
    kept honest going true shut = (goes.untouched honest shut).content
    kept honest going false opened = once.unchanged honest (goes.goes_on going ∙ opened) fault refl

    either : new.is_honest → (content : Content) → (content ≡ mid.content) ⊎ ((change : Change) × Makes change mid.content content)
        → FollowsIn (length reported) old.content content ⊎ FollowsIn (length reported + 1) old.content content
    either honest content (inl same) =
        inl (subst (λ n. FollowsIn n old.content content) (sym size)
        (subst (FollowsIn count old.content) (sym same) (follows (goes.honest honest))))
    either honest content (inr makes) =
        inr (subst (λ n. FollowsIn (n + 1) old.content content) (sym size)
        (follows_more count old.content mid.content content (follows (goes.honest honest)) (inr makes)))
