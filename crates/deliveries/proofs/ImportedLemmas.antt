-- What is imported stays as it is where nothing is imported.
use Rattle.std.proofs.Common.{◌≡◌, true, false, List, [], Option, Some, None, refl, sym, ap, ◌∙◌, true≢false}
use Rattle.store.specs.Change.{with_change, with_each, with_imported}
use Rattle.store.specs.Standing.{Commits, Content, Reads, Standing}
use Rattle.store.specs.Tables.{Tables}
use Rattle.store.specs.declared.change.Change.{Change}
use Rattle.store.specs.declared.change.ImportedEntry.{ImportedEntry}
use Rattle.store.specs.declared.fault.StoreFault.{StoreFault}
use Rattle.store.proofs.ReadLemmas.{kept-read}
use Rattle.deliveries.specs.Delivered.{KeepsImported}

pub imported_read : (fault : Option StoreFault) (old new : Standing) → Reads fault old new → KeepsImported old new
imported_read fault old new reads honest going =
    ap (λ (c : Content). c.tables.imported)
    (reads.kept honest (λ failed. true≢false (sym (reads.goes.failed failed).0 ∙ going)))

imported_with : (change : Change) (tables : Tables) → change.imported.items ≡ []
    → (with_change change tables).imported ≡ tables.imported
unfolding with_change
imported_with change tables none = ap (λ (items : List ImportedEntry). with_each with_imported items tables.imported) none

pub imported_commit : (change : Change) (fault : Option StoreFault) (old new : Standing) → Commits change fault old new
    → change.imported.items ≡ [] → KeepsImported old new
imported_commit change None old new commits none honest going =
    ap (λ (t : Tables). t.imported) (commits.made honest refl).tables ∙ imported_with change old.content.tables none
imported_commit change (Some fault) old new commits none honest going =
    ap (λ (c : Content). c.tables.imported) (commits.unchanged honest going fault refl)

-- behind a read
pub imported_then : (first second third : Standing) → Reads None first second → (third.is_honest → second.is_honest)
    → KeepsImported second third → KeepsImported first third
imported_then first second third reads before keeps honest going =
    keeps honest going ∙ ap (λ (c : Content). c.tables.imported) (kept-read first second reads (before honest))
