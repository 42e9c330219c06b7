use Rattle.std.proofs.Common.{◌∙◌, ap, arith, subst, sym}
use Rattle.sqlite_trees.specs.Objects.{catalog_tree}
use Rattle.sqlite_trees.proofs.Doubt.{clean_of, no_doubt}
use Rattle.sqlite_store.specs.FileStore.{view}
use Rattle.sqlite_store.specs.Laws.{settled_at}
use Rattle.sqlite.specs.Files.{IsEmpty}
use Rattle.sqlite.proofs.FileLemmas.{from_connection}
use Rattle.sqlite.proofs.ListingLemmas.{empty_is_sound}
use Rattle.store_file.proofs.connecting.begun.Goals as goal

pub over-requires : goal.over-requires
over-requires g c none = (c.in-Ok.ensures.ok (clean_of _ none)).fresh

pub returns-in-Ok-over-clause-empty : goal.returns-in-Ok-over-clause-empty
returns-in-Ok-over-clause-empty g c clean =
    let over = c.in-Ok-over.ensures in
    let now = clean_of (view c.in-Ok.store).is_clean (omega (arith, over.clean, clean)) in
    let made = c.in-Ok.ensures.ok now in
    let same = over.trees clean in
    (c.in-Ok.ensures.honest now, (λ tree low. ap (λ d. d tree) same ∙ made.empty tree low, ap (λ d. d catalog_tree) same ∙ made.unlisted))

pub returns-in-Err-clause-cause : goal.returns-in-Err-clause-cause
returns-in-Err-clause-cause g c clean = (c.in-Err.ensures.falls clean, c.in-Err.ensures.cause clean)

pub returns-in-Err-clause-unharmed : goal.returns-in-Err-clause-unharmed
returns-in-Err-clause-unharmed g c clean = (c.in-Err.ensures.falls clean, c.in-Err.ensures.kept clean)

pub returns-in-Err-over-clause-cause : goal.returns-in-Err-over-clause-cause
returns-in-Err-over-clause-cause g c late =
    let rest = c.in-Err-over.ensures in
    let now = no_doubt _ late in
    let clean = clean_of (view c.in-Ok.store).is_clean (omega (arith, rest.unharmed.clean)) in
    let made = c.in-Ok.ensures.ok clean in (
      c.in-Ok.ensures.honest clean,
      rw c.new_error.ensures.value (from_connection _ _ _ _ _ c.in-Err-over.error made.counts rest.unharmed.counts
          (λ _. (_, empty_is_sound _ made.unlisted)) (rest.err now)),
    )

pub returns-in-Err-over-clause-unharmed : goal.returns-in-Err-over-clause-unharmed
returns-in-Err-over-clause-unharmed g c late =
    let rest = c.in-Err-over.ensures in
    let now = no_doubt _ late in
    let clean = clean_of (view c.in-Ok.store).is_clean (omega (arith, rest.unharmed.clean)) in
    let made = c.in-Ok.ensures.ok clean in
    let stays = g.met.D.Disk.seen_may_stay in (
      c.in-Ok.ensures.honest clean,
      λ found may.
          let is = settled_at c.in-Ok.store stays found made.is_open (rest.unharmed.outcomes found may) ∙ sym made.fresh.clean in
          subst IsEmpty (sym is) (made.empty, made.unlisted),
    )
