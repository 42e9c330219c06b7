-- What a whole request gets is what it gets with whatever follows it.
use Rattle.std.proofs.Common.{◌≡◌, ◌∙◌, ◌<◌, ◌⊎◌, inl, inr, ℕ, Bool, List, [], ◌∷◌, ◌++◌, length, refl, arith, ap, sym, subst, append-nil, length-append, Option}
use Rattle.building.specs.Building.{Building}
use Rattle.deliveries.specs.declared.delivery.Delivery.{Delivery}
use Rattle.panel_http.specs.Serving.{Serves, Tells}
use Rattle.points.specs.Texts.{Text}
use Rattle.panel_http.specs.declared.served.Served.{Served}
use Rattle.panel_http.specs.declared.served.Served.TheVariants.{Answered, NoReply, NoRequest, ReplyLost}
use Rattle.panel_http.specs.Whole.{IsWhole}
use Rattle.panel_http.specs.Response.{Status}
use Rattle.store.specs.Standing.{Standing}

pub no-bytes : (bytes : Text) → length bytes ≡ 0 → bytes ≡ []
no-bytes [] none = refl
no-bytes (byte ∷ bytes) none = absurd (omega arith)

-- where no byte has come, and these are whole or all, none comes
pub nothing-comes : (b : Building) (bytes more : Text) → bytes ≡ [] → IsWhole b bytes ⊎ (more ≡ []) → bytes ++ more ≡ []
nothing-comes b bytes more none (inl whole) = let some = whole.some in let size = ap length none in absurd (omega arith)
nothing-comes b bytes more none (inr nothing) = ap (λ l. l ++ more) none ∙ nothing

more-long : (bytes more : Text) → 0 < length bytes → 0 < length (bytes ++ more)
more-long bytes more some = let longer = length-append bytes more in omega arith

tells-more : (b : Building) (e : List Delivery) (bytes more : Text) (code : Status) (text : Text) (old new : Standing) (shut : Bool)
    → IsWhole b bytes → Tells b e bytes code text old new shut → Tells b e (bytes ++ more) code text old new shut
tells-more b e bytes more code text old new shut whole (inl it) = inl (record {
  request = it.request;
  is_request = (whole.steady it.request more).0 it.is_request;
  said = it.said;
  is_said = it.is_said;
  is_given = it.is_given;
  holds = it.holds;
})
tells-more b e bytes more code text old new shut whole (inr (inl it)) = inr (inl (record { is_given = it.is_given; holds = it.holds }))
tells-more b e bytes more code text old new shut whole (inr (inr (inl it))) =
    inr (inr (inl (record { is_given = it.is_given; is_shut = it.is_shut; holds = it.holds })))
tells-more b e bytes more code text old new shut whole (inr (inr (inr it))) = inr (inr (inr (record {
  request = it.request;
  is_request = (whole.steady it.request more).0 it.is_request;
  is_given = it.is_given;
  ends = it.ends;
})))

whole-serves : (b : Building) (e : List Delivery) (bytes more : Text) (r s : ℕ) (held holds : Option Text) (before now : ℕ)
    (old new : Standing) (shut : Bool) (served : Served) → IsWhole b bytes → Serves b e bytes r s held holds before now old new shut served
    → Serves b e (bytes ++ more) r s held holds before now old new shut served
whole-serves b e bytes more r s held holds before now old new shut (Answered code) whole (some, text, appends, tells) =
    (more-long bytes more some, text, appends, tells-more b e bytes more code text old new shut whole tells)
whole-serves b e bytes more r s held holds before now old new shut ReplyLost whole (some, code, text, lost, tells) =
    (more-long bytes more some, code, text, lost, tells-more b e bytes more code text old new shut whole tells)
whole-serves b e bytes more r s held holds before now old new shut NoRequest whole (inl risen, keeps, holds-still) =
    (inl risen, keeps, holds-still)
whole-serves b e bytes more r s held holds before now old new shut NoRequest whole (inr none, keeps, holds-still) =
    let some = whole.some in let size = ap length none in absurd (omega arith)
whole-serves b e bytes more r s held holds before now old new shut NoReply whole (some, keeps, it) = (
  more-long bytes more some,
  keeps,
  record {
    request = it.request;
    is_request = (whole.steady it.request more).0 it.is_request;
    holds = it.holds;
  },
)

-- bytes that are whole, or after which nothing comes, get what the input gets
pub serves-more : (b : Building) (e : List Delivery) (bytes more : Text) (r s : ℕ) (held holds : Option Text) (before now : ℕ)
    (old new : Standing) (shut : Bool) (served : Served) → IsWhole b bytes ⊎ (more ≡ [])
    → Serves b e bytes r s held holds before now old new shut served
    → Serves b e (bytes ++ more) r s held holds before now old new shut served
serves-more b e bytes more r s held holds before now old new shut served (inl whole) serves =
    whole-serves b e bytes more r s held holds before now old new shut served whole serves
serves-more b e bytes more r s held holds before now old new shut served (inr none) serves =
    let all : bytes ≡ bytes ++ more = sym (ap (λ l. bytes ++ l) none ∙ append-nil bytes) in
    subst (λ l. Serves b e l r s held holds before now old new shut served) all serves
