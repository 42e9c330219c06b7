use Rattle.std.proofs.Common.{◌≡◌, ◌∙◌, ◌++◌, ◌∷◌, [], List, ℤ, Bool, true, false, cond, sym, ap, subst, to_z, of_z, w64, rules}
use Rattle.std.proofs.lemmas.List.{append-nil}
use Rattle.deliveries.specs.declared.delivery.Delivery.{Delivery}
use Rattle.deliveries.specs.declared.delivery.Delivery.TheVariants.{Tick}
use Rattle.deliveries.specs.Reply.{reply}
use Rattle.store_memory.specs.Memory.{standing_of}
use Rattle.desk_straighten.specs.Steps.{is_ticked}
use Rattle.desk_straighten.proofs.StoreLemmas.{straightened_by-tick}
use Rattle.desk_straighten.proofs.ticks.straighten_tick.Goals as goal

pub returns-in_ok-push-clause-straightens : goal.returns-in_ok-push-clause-straightens
returns-in_ok-push-clause-straightens c = λ E held.
    let b = c.args.building.now in
    let whole : to_z w64 (of_z w64 c.args.at) ≡ c.args.at = search rules in
    let said : c.in_ok-reply.reply ≡ reply b E (Tick c.args.at) =
    (c.in_ok-reply.ensures.delivers E tt held).0 ∙ ap (λ (z : ℤ). reply b E (Tick z)) whole in
    let ticked : is_ticked (reply b E (Tick c.args.at)) ≡ true =
    ap is_ticked (sym said) ∙ (sym c.is_ticked.ensures ∙ c.if-is_ticked.true) in
    c.in_ok-push.ensures.items
    ∙ (ap (λ (z : ℤ). c.args.straightened.now.items ++ Tick z ∷ []) whole
    ∙ ap (λ (xs : List Delivery). c.args.straightened.now.items ++ xs)
    (sym (straightened_by-tick b E c.args.at ∙ ap (λ (t : Bool). cond t (Tick c.args.at ∷ []) []) ticked)))

pub returns-else-is_ticked-clause-straightens : goal.returns-else-is_ticked-clause-straightens
returns-else-is_ticked-clause-straightens c = λ E held.
    let b = c.args.building.now in
    let whole : to_z w64 (of_z w64 c.args.at) ≡ c.args.at = search rules in
    let said : c.in_ok-reply.reply ≡ reply b E (Tick c.args.at) =
    (c.in_ok-reply.ensures.delivers E tt held).0 ∙ ap (λ (z : ℤ). reply b E (Tick z)) whole in
    let old : is_ticked (reply b E (Tick c.args.at)) ≡ false =
    ap is_ticked (sym said) ∙ (sym c.is_ticked.ensures ∙ c.if-is_ticked.false) in
    sym (ap (λ (xs : List Delivery). c.args.straightened.now.items ++ xs)
    (straightened_by-tick b E c.args.at ∙ ap (λ (t : Bool). cond t (Tick c.args.at ∷ []) []) old)
    ∙ append-nil c.args.straightened.now.items)
