-- What a row without a name, or a command's with a number below 1, says.
use Rattle.std.proofs.Common.{◌≡◌, true, false, not, nat_le, List, ℕ, pos, negsuc, Option, Some, None, is_some, refl, sym, ap, arith, true≢false, option_and_then}
use Rattle.std.proofs.lemmas.Bool.{ltb-true}
use Rattle.sqlite_value.specs.declared.value.Value.{Value}
use Rattle.sqlite_value.specs.declared.value.Value.TheVariants.{Blob, Int, Null, Real, Text}
use Rattle.sqlite_value.specs.Order.{Row, column}
use Rattle.store.specs.declared.change.KeptRow.{KeptRow}
use Rattle.store_sql_rows.specs.Broken.{is_unnumbered}
use Rattle.store_sql_rows.specs.Cells.{count_in, is_below, name_in}
use Rattle.store_sql_rows.specs.Rows.{command_said}

pub not_some : {X : Type 0} (o : Option X) → not (is_some o) ≡ true → o ≡ None
not_some None is = refl
not_some (Some x) is = absurd (true≢false (sym is))

-- a number below 1 is none of a command's
pub below_counts_none : (cell : Value) → is_below 1 cell ≡ true → count_in 1 1_000_000_000_000 cell ≡ None
below_counts_none (Int (pos n)) is =
    let under = ltb-true n 1 is in
    let off : nat_le 1 n ≡ false = (let zero : n ≡ 0 = omega (arith, under) in ap (nat_le 1) zero) in rw off refl
below_counts_none (Int (negsuc n)) is = refl
below_counts_none Null is = refl
below_counts_none (Text t) is = refl
below_counts_none (Real x) is = refl
below_counts_none (Blob b) is = refl

none_then : (o : Option (List ℕ)) → option_and_then {U = KeptRow} (λ name. None) o ≡ None
none_then None = refl
none_then (Some name) = refl

pub unnumbered_silent : (row : Row) → is_unnumbered row ≡ true → command_said row ≡ None
unnumbered_silent row is = rw (below_counts_none (column row 2) is) (none_then (name_in (column row 1)))
