use Rattle.std.proofs.Common.{◌≡◌, ◌∙◌, ℕ, List, Some, slice_get, sym, ap, rules}
use Rattle.std.specs.Map.{lookup_key}
use Rattle.std.specs.Str.{bytes_eq}
use Rattle.std.proofs.lemmas.Map.Made.{lookup_key_same}
use Rattle.std.proofs.lemmas.Option.{slice_get_within}
use Rattle.std.proofs.lemmas.Slice.Eq.{bytes_eq-Decides}
use Rattle.store_memory.proofs.found_last.found.Goals as goal

pub returns-clause-entry : goal.returns-clause-entry
returns-clause-entry g c =
    let name : List ℕ = c.args.name.now in
    let entries = c.args.values.now.entries in
    let key : List ℕ = c.in_ok-index.field-0-1.now in
    let key_is : lookup_key (bytes_eq name) entries ≡ Some key = search rules in
    let entry_is : slice_get entries c.in_ok-index.index ≡ Some (key, c.in_ok-index.value.now) = search rules in
    let same : name ≡ key = lookup_key_same bytes_eq-Decides name entries key key_is in
    entry_is ∙ ap (λ k. Some (k, c.in_ok-index.value.now)) (sym same)

pub returns-clause-within : goal.returns-clause-within
returns-clause-within g c = slice_get_within c.args.values.now.entries c.in_ok-index.index _ c.in_ok-index.ensures.entry
