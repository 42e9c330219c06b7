-- What a reply leaves within its range.
use Rattle.std.proofs.Common.{◌≡◌, ℕ, Bool, true, false, cond, Option, Some, None, nat_le}
use Rattle.deliveries.specs.declared.reply.Reply.{Reply}
use Rattle.deliveries.specs.declared.reply.Reply.TheVariants.{SkipDone}
use Rattle.panel.specs.Run.{skip_after}

none_some : (x : ℕ) → None ≡ Some x → ⊥
none_some x e = cc

-- a skip that is left is the one before
pub skip_after-same : (reply : Reply) (skip : Option ℕ) (x : ℕ) → skip_after reply skip ≡ Some x → skip ≡ Some x
skip_after-same reply None x e = absurd (none_some x e)
skip_after-same (SkipDone next) (Some upto) x e = by (nat_le upto next) e
  where
    by : (done : Bool) → cond done None (Some upto) ≡ Some x → Some upto ≡ Some x
    by true e = absurd (none_some x e)
    by false e = e
skip_after-same other (Some upto) x e = e
