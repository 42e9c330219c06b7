use Rattle.std.proofs.Common.{[], ◌∙◌, refl, sym, ap, subst, inl, inr, arith, le_refl}
use Rattle.std.proofs.Math.Logic.{∥∥₁_map}
use Rattle.std.proofs.lemmas.List.Elements.{All-nil}
use Rattle.sqlite_trees.proofs.Doubt.{no_doubt}
use Rattle.sqlite_store.specs.Build.{CanBuild}
use Rattle.sqlite_store.specs.Listed.{catalog_rows}
use Rattle.sqlite_store.specs.Listing.{listed_from}
use Rattle.sqlite_store.proofs.StoreLemmas.{limit_wider}
use Rattle.sqlite.proofs.FileLemmas.{from_store}
use Rattle.store_file.proofs.connecting.made.Goals as goal

pub returns-in-Ok-clause-ok : goal.returns-in-Ok-clause-ok
returns-in-Ok-clause-ok g c clean =
    let it = c.in-Ok.ensures in
    record {
      fresh = record {
        sound = it.ready.sound (no_doubt _ clean);
        numbered = it.numbered;
        clean = it.ready.clean;
        unmarked = it.ready.unmarked;
      };
      is_open = it.ready.is_open (no_doubt _ clean);
      counts = omega (arith, (it.kept clean).counts, it.counted);
      started = it.started clean;
      empty = λ tree low. ap (λ d. d tree) it.ready.clean ∙ it.empty clean tree low;
      unlisted = rw clean (catalog_rows _ _ _ ∙ ap (listed_from 0) (it.schema ∙ c.requires.none));
    }

pub returns-in-Err-clause-cause : goal.returns-in-Err-clause-cause
returns-in-Err-clause-cause g c clean =
    let none = c.requires.none in
    let back = c.in-Err.ensures.back in
    let shaped : CanBuild [] = record { distinct = refl; shaped = All-nil _; short = All-nil _ } in
    let kept = c.in-Err.ensures.unharmed clean in
    rw c.made_error.ensures.value (from_store _ _ _ _ _ _ c.in-Err.error (le_refl _) kept.counts
    (λ blank. record { few = rw none (omega arith); files = inl blank; schema = subst CanBuild (sym none) shaped })
    (limit_wider _ _ _ _ _ c.in-Err.error
    (λ stop. ∥∥₁_map stop (λ why. elim why [ inl full ↦ full | inr deep ↦ absurd (deep.0 (back ∙ none)) ]))
    (c.in-Err.ensures.cause clean)))
