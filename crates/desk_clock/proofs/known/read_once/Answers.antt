use Rattle.std.proofs.Common.{◌∙◌, ◌&&◌, ◌||◌, Some, ap, ap₂, is_some, map, sym}
use Rattle.std.specs.BTreeMap.{get}
use Rattle.std.specs.Cmp.Lexicographic.{slice_cmp}
use Rattle.std.specs.List.{list_any}
use Rattle.std.specs.Ordering.{nat_cmp}
use Rattle.std.specs.Str.{bytes_eq}
use Rattle.desk_clock.specs.Knowing.{has_in_file, in_file, is_read}
use Rattle.desk_clock.proofs.KnowingLemmas.{kept-both, read-knows, read-one}
use Rattle.dates.specs.Entry.{spelling}
use Rattle.store_memory.proofs.EntryLemmas.{texts-any}
use Rattle.store_memory.proofs.HeldLemmas.{by_bytes}
use Rattle.store_memory.specs.Held.{imported_of}
use Rattle.desk_clock.proofs.known.read_once.Goals as goal

pub returns-clause-knows : goal.returns-clause-knows
returns-clause-knows g c = λ honest building items file knew.
    let table = (g.S.Store.standing c.args.store.now).content.tables.imported in
    let calendar = c.args.calendar.now in
    let name = calendar.name in
    let old = c.args.known.now in
    let was = get (slice_cmp nat_cmp) old.read in
    let now = get (slice_cmp nat_cmp) c.insert.new.self in
    let texts = map spelling c.in_ok-imported.imported.items in
    read-knows (λ q text. in_file building q text || table q text) items name
    (λ text. has_in_file calendar text || list_any (bytes_eq text) texts)
    (imported_of old.texts) (imported_of c.keep-2.new.self) (is_read old)
    (λ q. is_some (now q))
    (λ q. read-one (bytes_eq name q) tt (was q) (now q) (by_bytes (Some tt) (was q) name q (now q) (c.in_ok-insert.ensures.updates.0 q)))
    (λ text. ap₂ (λ f t. f || t) (sym (file text)) (texts-any (table name) texts (c.in_ok-imported.ensures.value honest) text))
    (λ q text. (rw c.as_slice-2.ensures at c.in_ok-keep-2.ensures) q text
    ∙ ap (λ b. (bytes_eq name q && has_in_file calendar text) || b) ((rw c.as_slice.ensures.value at c.in_ok-keep.ensures) q text)
    ∙ kept-both (bytes_eq name q) (has_in_file calendar text) (list_any (bytes_eq text) texts) (imported_of old.texts q text))
    knew
