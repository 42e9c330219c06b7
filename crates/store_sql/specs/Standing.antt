-- How a store in a database stands.
use Rattle.std.specs.Prelude.{◌≡◌, ℕ, Bool, false, refl}
use Rattle.std.specs.Coded.{Coded, code_by, coded×, coded_bool, coded_ℕ}
use Rattle.sqlite_trees.specs.declared.store.Store.{Ghosts}
use Rattle.sqlite_trees.specs.Tree.{Trees}
use Rattle.sqlite.specs.Held.{Held, held_code, state}
use Rattle.sqlite.specs.State.{HasCleanDisk, State}
use Rattle.store_sql.specs.Opening.{Stands}
use Rattle.store_sql_rows.specs.Broken.{cannot_stand_in}
use Rattle.store_sql_rows.specs.Ours.{content_of, kept_in}
use Rattle.store.specs.Standing.{Standing}
use Rattle.store_sql.specs.declared.session.Session.{Session}

abbrev pub session_code : {S : Type 0} → Coded S → Coded (Session S)
session_code {S} store =
    code_by (Held S × (ℕ × Bool)) (coded× (held_code store) (coded× coded_ℕ coded_bool)) (λ o. (o.connection, (o.failures, o.is_shut)))
    (λ p. record { connection = p.0; failures = p.1.0; is_shut = p.1.1 }) (λ _. refl)

-- while no failure has shut it, and the disk has returned what was written, it stands
pub record IsFit (s : State) (is_shut : Bool) : Type 0 where
  pub mode : s.in_transaction ≡ false
  pub stands : HasCleanDisk s → is_shut ≡ false → Stands s

-- what a store holds is what the last commit left
abbrev pub standing_at : State → ℕ → Bool → Standing
standing_at s failures is_shut = record {
  content = content_of s.committed.trees;
  is_shut = is_shut;
  failures = failures;
  is_honest = HasCleanDisk s;
  may_leave = λ content. (db : Trees) × s.may_leave db × (content ≡ content_of db);
  cannot_stand = cannot_stand_in (kept_in s.committed.trees);
}

abbrev pub standing_of : {S : Type 0} → Ghosts S → Session S → Standing
standing_of g session = standing_at (state g session.connection) session.failures session.is_shut
