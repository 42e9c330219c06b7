-- What is left of the rows when the early ones of each panel are dropped.
use Rattle.std.proofs.Common.{◌≡◌, ◌<◌, ◌+◌, ◌-◌, inl, inr, ℕ, zero, suc, Bool, true, false, ◌&&◌, cond, nat_lt, List, [], ◌∷◌, map, None, Option, ◌++◌, drop, length, get_or, add-one, drop-cons, refl, sym, ap, subst, ◌∙◌, arith, Result, Ok, Err, IfOk}
use Rattle.std.specs.List.{Contains}
use Rattle.std.specs.Str.{bytes_eq}
use Rattle.std.proofs.lemmas.Bool.{cases_Bool, le-ltb, lt-ltb, ltb-false, ltb-true}
use Rattle.std.proofs.lemmas.List.{append_assoc}
use Rattle.std.proofs.lemmas.Slice.Eq.{bytes_eq-Decides}
use Rattle.points.specs.declared.command_row.CommandRow.{CommandRow}
use Rattle.points.specs.Run.{Rows}
use Rattle.store.specs.declared.change.RowsBelow.{RowsBelow}
use Rattle.store.specs.Change.{with_each, without_rows}
use Rattle.store.specs.Listed.{AreTexts, HasPanel}
use Rattle.store.specs.Tables.{Tables}
use Rattle.points.specs.Texts.{Text}
use Rattle.store_sql_rows.specs.Stored.{Kept, tables_in}
use Rattle.store_sql_rows.specs.declared.read_fault.ReadFault.{ReadFault}
use Rattle.store_sql.specs.Naming.{NamesStand}
use Rattle.store_sql.specs.Opening.{DropsEarly, IsReadToDrop, early_rows}
use Rattle.store_sql.proofs.WholeLemmas.{dropped as rows_gone}

both_same : {A : Type 0} (b : Bool) (x : A) → cond b x x ≡ x
both_same true x = refl
both_same false x = refl

module _ (next : Text → ℕ) where
  abbrev after : List Text → (Text → Rows) → Text → Rows
  after panels row = with_each without_rows (map (early_rows next) panels) row

  -- what is gone stays gone
  stays_gone : (panels : List Text) (row : Text → Rows) (p : Text) (n : ℕ) → row p n ≡ None → after panels row p n ≡ None
  stays_gone [] row p n none = none
  stays_gone (q ∷ panels) row p n none =
      stays_gone panels (without_rows (early_rows next q) row) p n
      (ap (cond (bytes_eq q p && nat_lt n (next q - 1_000)) None) none ∙ both_same (bytes_eq q p && nat_lt n (next q - 1_000)) None)

  late_step : (q p : Text) (n : ℕ) (kept : Option CommandRow) → nat_lt n (next p - 1_000) ≡ false
      → cond (bytes_eq q p && nat_lt n (next q - 1_000)) None kept ≡ kept
  late_step q p n kept late = elim (cases_Bool (bytes_eq q p)) [
    | inl same ↦
        let is : q ≡ p = (bytes_eq-Decides q p).0 same in
        let low : nat_lt n (next q - 1_000) ≡ false = ap (λ t. nat_lt n (next t - 1_000)) is ∙ late in
        rw (same, low) refl
    | inr other ↦ rw other refl
  ]

  -- a row that is not early stays
  late_stays : (panels : List Text) (row : Text → Rows) (p : Text) (n : ℕ) → nat_lt n (next p - 1_000) ≡ false
      → after panels row p n ≡ row p n
  late_stays [] row p n late = refl
  late_stays (q ∷ panels) row p n late = late_stays panels (without_rows (early_rows next q) row) p n late ∙ late_step q p n (row p n) late

  early_step : (q p : Text) (n : ℕ) (kept : Option CommandRow) → q ≡ p → nat_lt n (next p - 1_000) ≡ true
      → cond (bytes_eq q p && nat_lt n (next q - 1_000)) None kept ≡ None
  early_step q p n kept is early =
      let same : bytes_eq q p ≡ true = (bytes_eq-Decides q p).1 is in
      let low : nat_lt n (next q - 1_000) ≡ true = ap (λ t. nat_lt n (next t - 1_000)) is ∙ early in
      rw (same, low) refl

  -- an early row of a panel of the list goes
  early_goes : (panels : List Text) (row : Text → Rows) (p : Text) (n : ℕ) → Contains panels p → nat_lt n (next p - 1_000) ≡ true
      → after panels row p n ≡ None
  early_goes [] row p n (k, below, at) early = absurd (omega (arith, below))
  early_goes (q ∷ panels) row p n (zero, below, at) early =
      stays_gone panels (without_rows (early_rows next q) row) p n (early_step q p n (row p n) at early)
  early_goes (q ∷ panels) row p n (suc k, below, at) early =
      early_goes panels (without_rows (early_rows next q) row) p n (k, omega (arith, below), at) early

-- each panel with an early row is of the list
module _ (tables : Tables) (panels : List Text) (are : AreTexts (HasPanel tables) panels) where
  row_after : (p : Text) (n : ℕ) → after tables.next panels tables.row p n ≡ cond (nat_lt (n + 1_000) (tables.next p)) None (tables.row p n)
  row_after p n = elim (cases_Bool (nat_lt n (tables.next p - 1_000))) [
    | inl early ↦
        let below : n < tables.next p - 1_000 = ltb-true n (tables.next p - 1_000) early in
        let has : HasPanel tables p = inl (λ one. omega (arith, below, one)) in
        let low : nat_lt (n + 1_000) (tables.next p) ≡ true = lt-ltb (n + 1_000) (tables.next p) (omega (arith, below)) in
        early_goes tables.next panels tables.row p n ((are.each p).1 has) early ∙ sym (rw low refl)
    | inr late ↦
        let above = ltb-false n (tables.next p - 1_000) late in
        let high : nat_lt (n + 1_000) (tables.next p) ≡ false = le-ltb (n + 1_000) (tables.next p) (omega (arith, above)) in
        late_stays tables.next panels tables.row p n late ∙ sym (rw high refl)
  ]

  pub drops_early : DropsEarly tables (map (early_rows tables.next) panels)
  drops_early =
      let dropped = map (early_rows tables.next) panels in
      record { makes = rows_gone dropped tables ∙ (λ i. record tables { row = λ p n. row_after p n i }) }

-- what was read of the panels is what is to be dropped
pub early_reported : {V : Type 0} (kept : Kept) (panels : List Text) → AreTexts (HasPanel (tables_in kept)) panels → NamesStand kept
    → (items : V → List RowsBelow) → (r : Result V ReadFault) → IfOk r (λ it. items it ≡ map (early_rows (tables_in kept).next) panels)
    → IfOk r (λ it. IsReadToDrop kept (items it))
early_reported kept panels are stand items (Ok it) read =
    (subst (DropsEarly (tables_in kept)) (sym read) (drops_early (tables_in kept) panels are), stand)
early_reported kept panels are stand items (Err fault) read = tt

-- one panel more
pub far_more : (next : Text → ℕ) (panels : List Text) (i : ℕ) (panel : Text) (dropped longer : List RowsBelow) → i < length panels
    → panel ≡ get_or panels i panel
    → dropped ++ map (early_rows next) (drop i panels) ≡ map (early_rows next) panels → longer ≡ dropped ++ early_rows next panel ∷ []
    → longer ++ map (early_rows next) (drop (i + 1) panels) ≡ map (early_rows next) panels
far_more next panels i panel dropped longer below is far put =
    let cut : drop i panels ≡ panel ∷ drop (suc i) panels = drop-cons panels i panel below ∙ ap (λ it. it ∷ drop (suc i) panels) (sym is) in
    let rest = map (early_rows next) (drop (suc i) panels) in
    rw add-one
    (ap (λ l. l ++ rest) put ∙ append_assoc dropped (early_rows next panel ∷ []) rest
    ∙ sym (ap (λ l. dropped ++ map (early_rows next) l) cut) ∙ far)
