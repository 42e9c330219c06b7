-- What several reads took, one after the other, and what the whole input is then.
use Rattle.std.proofs.Common.{◌≡◌, ◌∙◌, ◌<◌, ◌+◌, ◌⊎◌, inl, inr, ℕ, Bool, List, [], ◌++◌, length, refl, arith, sym, ap, subst, length-append, Option, Some, None, IfSome}
use Rattle.std.specs.Io.KnownBytes.{IsAtEnd}
use Rattle.building.specs.Building.{Building}
use Rattle.deliveries.specs.declared.delivery.Delivery.{Delivery}
use Rattle.panel_http.specs.Gathering.{Takes}
use Rattle.panel_http.specs.Requests.{IsRequest}
use Rattle.panel_http.specs.Serving.{Serves}
use Rattle.panel_http.specs.Whole.{IsWhole}
use Rattle.panel_http.specs.declared.request.Request.{Request}
use Rattle.panel_http.specs.declared.served.Served.{Served}
use Rattle.panel_http.specs.declared.served.Served.TheVariants.{Answered, NoReply, NoRequest, ReplyLost}
use Rattle.points.specs.Texts.{Text}
use Rattle.store.specs.Standing.{Standing}

-- what is served of all bytes doesn't depend on the reader's counts
pub serves-counted : (b : Building) (e : List Delivery) (bytes : Text) (r s : ℕ) (held holds : Option Text) (before now : ℕ)
    (old new : Standing) (shut : Bool) (served : Served) → Serves b e bytes 0 0 held holds before now old new shut served
    → Serves b e bytes r s held holds before now old new shut served
serves-counted b e bytes r s held holds before now old new shut (Answered code) serves = serves
serves-counted b e bytes r s held holds before now old new shut ReplyLost serves = serves
serves-counted b e bytes r s held holds before now old new shut NoRequest (inl (inl risen), keeps, holds-still) = absurd (omega (arith, risen))
serves-counted b e bytes r s held holds before now old new shut NoRequest (inl (inr most), keeps, holds-still) = let full = most.0 in absurd (omega (arith, full))
serves-counted b e bytes r s held holds before now old new shut NoRequest (inr none, keeps, holds-still) = (inr none, keeps, holds-still)
serves-counted b e bytes r s held holds before now old new shut NoReply serves = serves

-- ---- all of an input, of which some has come

module _ (bytes come : Text) (before after : Option Text) (known : before ≡ Some bytes) (takes : Takes before after [] come) where
  -- what is left, and that the input is what has come and then that
  left-of : (rest : Text) × (after ≡ Some rest) × (bytes ≡ come ++ rest)
  left-of = left-by before after known takes
    where
      left-by : (b a : Option Text) → b ≡ Some bytes → Takes b a [] come → (rest : Text) × (a ≡ Some rest) × (bytes ≡ come ++ rest)
      left-by None a none taken = absurd (cc none)
      left-by (Some all) None some (taken, lost, has) = absurd lost
      left-by (Some all) (Some rest) some (taken, split, has) =
          let same : all ≡ bytes = cc some in
          (rest, refl, sym same ∙ split ∙ ap (λ l. l ++ rest) (sym has))

  -- a whole request asks what the input asks
  pub asks-all : (b : Building) (request : Request) → IsWhole b come → IsRequest b come request
      → (0 < length bytes) × IsRequest b bytes request
  asks-all b request whole is =
      let (rest, at, all) = left-of in
      let some = whole.some in
      let longer = ap length all ∙ length-append come rest in
      (omega arith, subst (λ l. IsRequest b l request) (sym all) ((whole.steady request rest).0 is))

  -- at the end of the input all has come
  pub all-come : IsAtEnd after → bytes ≡ come ++ []
  all-come ended =
      let (rest, at, all) = left-of in
      let none : rest ≡ [] = subst IsAtEnd at ended in
      all ∙ ap (λ l. come ++ l) none

  -- all that has come gets what the input gets
  pub serves-all : (slice : Text) (b : Building) (e : List Delivery) (r s : ℕ) (held holds : Option Text) (before_write after_write : ℕ)
      (old new : Standing) (shut : Bool) (served : Served) → slice ≡ come → IsAtEnd after
      → Serves b e (slice ++ []) 0 0 held holds before_write after_write old new shut served
      → Serves b e bytes r s held holds before_write after_write old new shut served
  serves-all slice b e r s held holds bw aw old new shut served same ended serves =
      subst (λ l. Serves b e l r s held holds bw aw old new shut served) (ap (λ l. l ++ []) same ∙ sym (all-come ended))
      (serves-counted b e (slice ++ []) r s held holds bw aw old new shut served serves)

  -- there is a byte, which has come or comes yet
  pub some-byte : (0 < length come) ⊎ IfSome after (λ rest. 0 < length rest) → 0 < length bytes
  some-byte some =
      let (rest, at, all) = left-of in
      let longer = ap length all ∙ length-append come rest in
      by rest longer (elim some [ inl has ↦ inl has | inr more ↦ inr (subst (λ a. IfSome a (λ l. 0 < length l)) at more) ])
    where
      by : (rest : Text) → length bytes ≡ length come + length rest → (0 < length come) ⊎ (0 < length rest) → 0 < length bytes
      by rest longer (inl has) = omega arith
      by rest longer (inr more) = omega arith
