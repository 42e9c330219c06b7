-- A list's tables keep of a panel's rows those that it may still repeat or use, and no others.
use Rattle.std.proofs.Common.{◌≡◌, ℕ, ◌+◌, ◌-◌, Bool, true, false, nat_lt, cond, List, Option, Some, None, is_some, option_map, refl, sym, ap, ◌∙◌, inl, inr, arith}
use Rattle.std.proofs.lemmas.Bool.{cases_Bool, cases_lt, false≢true}
use Rattle.std.proofs.lemmas.Bool.Decides.{nat_tests}
use Rattle.std.specs.List.{flat_map}
use Rattle.points.specs.declared.content.Content.{Content}
use Rattle.points.specs.Texts.{Text}
use Rattle.window.proofs.FrontLemmas.{ends_in_window}
use Rattle.window.specs.Taken as asks
use Rattle.window.specs.View.{kept_at}
use Rattle.window.specs.Window as bounds
use Rattle.building.specs.Building.{Building}
use Rattle.deliveries.proofs.RangeLemmas.{key_greatest}
use Rattle.deliveries.specs.declared.delivery.Delivery.{Delivery}
use Rattle.deliveries.specs.Accepted.{asks_of, taken_by}
use Rattle.deliveries.specs.Events.{machine}
use Rattle.deliveries.specs.Tables.{row_of, tables}
use Rattle.store_copy.specs.Remembered.{is_remembered, remembered}

no_content : (o : Option Content) → is_some o ≡ false → o ≡ None
no_content None none = refl
no_content (Some content) none = absurd (false≢true (sym none))

none_either : (before : Bool) → cond {A = Option Content} before None None ≡ None
none_either true = refl
none_either false = refl

-- what is kept under a number is kept of one that may still be repeated or used
kept-none : (b : Building) (p : Text) (ds : List Delivery) (number : ℕ) → is_remembered (asks.front (taken_by b p ds)) number ≡ false
    → kept_at (taken_by b p ds) number ≡ None
unfolding bounds.window bounds.remembered
kept-none b p ds number out =
    let t = taken_by b p ds in
    elim (cases_Bool (nat_lt number (asks.front t - 1000))) [
      | inl below ↦ rw below refl
      | inr above ↦ elim (cases_Bool (asks.is_key t number)) [
        | inl key ↦
            let last = key_greatest b p ds number key in
            elim (cases_lt number (asks.front t + 64)) [
              | inl near ↦
                  let is : is_remembered (asks.front t) number ≡ true = grind (arith, nat_tests) in
                  absurd (false≢true (sym out ∙ is))
              | inr far ↦ absurd (false≢true (sym ((ends_in_window (flat_map (asks_of b p) ds)).none number far) ∙ key))
            ]
        | inr none ↦ ap (λ o. cond (nat_lt number (asks.front t - 1000)) None o) (no_content (asks.content_at t number) none) ∙ none_either _
      ]
    ]

pub own_remembered : (b : Building) (ds : List Delivery) → remembered (tables b ds) ≡ tables b ds
unfolding tables
own_remembered b ds = λ i. record (tables b ds) { row = λ panel number. same panel number i }
  where
    same : (panel : Text) (number : ℕ)
        → cond (is_remembered ((tables b ds).next panel) number) ((tables b ds).row panel number) None ≡ (tables b ds).row panel number
    same panel number = elim (cases_Bool (is_remembered (asks.front (taken_by b panel ds)) number)) [
      | inl within ↦ rw within refl
      | inr out ↦
          rw out (sym (ap (option_map (row_of (asks.front (taken_by b panel ds)) number ((machine b ds).answers panel number)))
          (kept-none b panel ds number out)))
    ]
