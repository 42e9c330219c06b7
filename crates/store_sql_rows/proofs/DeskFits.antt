-- A row of `desk` of this version is never refused.
use Rattle.std.proofs.Common.{◌≡◌, ◌⊎◌, inl, inr, ℤ, pos, negsuc, nat_lt, not, List, [], ◌∷◌, length, true, false, refl, sym, ap, subst, arith, true≢false}
use Rattle.std.specs.List.{list_all}
use lib.Ieee.{is_nan}
use Rattle.std.specs.Float.{NotNan}
use Rattle.std.proofs.lemmas.Bool.{both_ways, or_right}
use Rattle.std.proofs.lemmas.List.Elements.{All-from_recursion}
use Rattle.std.proofs.lemmas.Nat.Bits.{bit_at-zero}
use Rattle.sqlite_value.specs.declared.value.Value.{Value}
use Rattle.sqlite_value.specs.declared.value.Value.TheVariants.{Blob, Int, Null, Real, Text}
use Rattle.sqlite_value.specs.Order.{Row, bytes, number, value_cmp}
use Rattle.sqlite_trees.specs.Tree.{Trees, with_tree}
use Rattle.sqlite_trees.specs.View.{IsStorableRow}
use Rattle.sqlite_sql.specs.Ops.{binary, unary}
use Rattle.sqlite_schema.specs.declared.schema.Constraint.TheVariants.{Check, Datatype, ForeignKey, NotNull, PrimaryKey, Unique}
use Rattle.sqlite_schema.specs.declared.schema.Keys.TheVariants.{Enforced}
use Rattle.sqlite_schema.specs.declared.schema.Kind.TheVariants.{Integer}
use Rattle.sqlite_schema.specs.Rules.{Keeps, is_of, passes}
use Rattle.sqlite_rules.specs.declared.error.Refusal.{Refusal}
use Rattle.sqlite_rules.specs.declared.error.Refusal.TheVariants.{BadReference, Mismatch, NoRowid, TooDeep, Violates}
use Rattle.sqlite_rules.specs.Edit.{Edit, IsOversized, IsRefused, are_fresh, edited, is_referred, without_all}
use Rattle.store_sql_rows.specs.Schema.{desk_schema, desk_table, desk_tree}
use Rattle.store_sql_rows.proofs.WriteFails.{Passes}

-- the row of version 2 with this as its last cell
abbrev pub desk_row : Value → Row
desk_row last = Int (pos 1) ∷ Null ∷ Int (pos 2) ∷ last ∷ []

-- rows of `desk` are taken out, and that one is put in
abbrev pub desk_edit : List ℤ → Value → Edit
desk_edit gone last = record { table = desk_table; gone = gone; news = desk_row last ∷ [] }

storable_with : (last : Value) → NotNan (number last) → bytes last ≡ [] → IsStorableRow 0 (desk_row last)
unfolding is_nan
storable_with last whole empty = (
  record {
    typed = λ c h. absurd (let none = bit_at-zero c in omega (arith, h, none));
    columns = (omega arith, omega arith);
    numbers = All-from_recursion (λ v. NotNan (number v)) (desk_row last) (tt, (tt, (tt, (whole, tt))));
    short = rw empty (omega arith);
  },
  omega arith,
)

storable : (last : Value) → is_of Integer last ≡ true → IsStorableRow 0 (desk_row last)
unfolding is_nan
storable Null is = storable_with Null tt refl
storable (Int (pos n)) is = storable_with (Int (pos n)) tt refl
storable (Int (negsuc n)) is = storable_with (Int (negsuc n)) tt refl
storable (Real x) is = absurd (true≢false (sym is))
storable (Text t) is = absurd (true≢false (sym is))
storable (Blob b) is = absurd (true≢false (sym is))

module _ (db : Trees) (gone : List ℤ) (last : Value) (integer : is_of Integer last ≡ true) (left : without_all (db desk_tree) gone ≡ [])
    (unique : Keeps Unique desk_schema db) where
  abbrev edit : Edit
  edit = desk_edit gone last

  typed : list_all (passes Datatype desk_schema db desk_table) (desk_row last ∷ []) ≡ true
  unfolding unary binary value_cmp
  typed = rw integer refl

  present : list_all (passes NotNull desk_schema db desk_table) (desk_row last ∷ []) ≡ true
  unfolding unary binary value_cmp
  present = refl

  checked : list_all (passes Check desk_schema db desk_table) (desk_row last ∷ []) ≡ true
  unfolding unary binary value_cmp is_nan lib.Ieee.lt
  checked = refl

  fresh : are_fresh [] (desk_row last ∷ []) ≡ true
  unfolding value_cmp
  fresh = refl

  distinct : Keeps Unique desk_schema (with_tree db desk_tree (edited db edit))
  distinct = rw left ((refl, tt), unique.1)

  referred : is_referred desk_schema Enforced edit ≡ true
  referred = or_right (not (nat_lt 0 (length gone))) true refl

  unrefused : (why : Refusal) → IsRefused desk_schema Enforced db edit why → ⊥
  unrefused (Violates Datatype) h = both_ways _ h typed
  unrefused (Violates NotNull) h = both_ways _ h present
  unrefused (Violates Check) h = both_ways _ h checked
  unrefused (Violates PrimaryKey) h = both_ways _ (subst (λ rows. are_fresh rows (desk_row last ∷ []) ≡ false) left h) fresh
  unrefused (Violates Unique) h = h distinct
  unrefused (Violates ForeignKey) h = h
  unrefused Mismatch h = true≢false h
  unrefused NoRowid h = true≢false h
  unrefused BadReference h = both_ways _ h referred
  unrefused TooDeep h = h

  -- `desk` has no index
  fits_disk : (row : Row) → row ≡ desk_row last → IsOversized desk_schema desk_table row → ⊥
  fits_disk row is (inl large) = large (subst (IsStorableRow 0) (sym is) (storable last integer))
  fits_disk row is (inr (i, inl has, at, large)) = absurd (let e = ap (λ it. it.table) has in cc)
  fits_disk row is (inr (i, inr (inl has), at, large)) = absurd (let e = ap (λ it. it.table) has in cc)
  fits_disk row is (inr (i, inr (inr (inl has)), at, large)) = absurd (let e = ap (λ it. it.table) has in cc)
  fits_disk row is (inr (i, inr (inr (inr (inl has))), at, large)) = absurd (let e = ap (λ it. it.table) has in cc)
  fits_disk row is (inr (i, inr (inr (inr (inr (inl has)))), at, large)) = absurd (let e = ap (λ it. it.table) has in cc)
  fits_disk row is (inr (i, inr (inr (inr (inr (inr none)))), at, large)) = none

  only : (row : Row) → (row ≡ desk_row last) ⊎ ⊥ → IsOversized desk_schema desk_table row → ⊥
  only row (inl is) large = fits_disk row is large
  only row (inr none) large = none

  pub desk_passes : Passes db edit
  desk_passes = record { rules = unrefused; fits = only; acts = refl }
