-- The value so far, and those of the headers that are left, are the values of all headers.
use Rattle.std.proofs.Common.{◌≡◌, ◌++◌, drop, option_map, option_to_list}
use Rattle.panel_http.proofs.ValueLemmas.{values_at}
use Rattle.panel_http.proofs.field_values.only_value.Given as goal

abbrev pub invariant-loop-header : goal.invariant-loop-header
invariant-loop-header l =
    values_at l.buffer l.name l.headers
    ≡ option_to_list (option_map (λ v. v.now) l.only) ++ values_at l.buffer l.name (drop l.header-index l.headers)
