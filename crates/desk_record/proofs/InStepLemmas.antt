-- A record and a store, from call to call.
use Rattle.std.proofs.Common.{◌≡◌, ℕ, false, List, [], ◌∷◌, ◌++◌, Option, Some, None, Ok, Err, refl, sym, ap, append_assoc, ◌∙◌, subst, inl, inr}
use Rattle.std.specs.List.{flat_map}
use Rattle.std.proofs.lemmas.Bool.{false≢true}
use Rattle.std.proofs.lemmas.List.Concat.{flat_map-append}
use Rattle.building.specs.Building.{Building}
use Rattle.deliveries.specs.declared.delivery.Delivery.{Delivery}
use Rattle.deliveries.specs.declared.reply.Reply.{Reply}
use Rattle.deliveries.specs.Delivered.{Delivers, Holds}
use Rattle.deliveries.specs.Tables.{tables}
use Rattle.delivery_json.specs.DeliveryLine.{parse_line}
use Rattle.desk_record.specs.Lines.{IsBetween, IsWhole, whole_lines}
use Rattle.desk_record.specs.Recorded.{AreLevel, Follows, HasTables, InStep, IsLineOf, deliveries_in, listed}
use Rattle.desk_record.specs.declared.recorder.RecordFault.{RecordFault}
use Rattle.desk_record.specs.declared.recorder.RecordFault.TheVariants as recording
use Rattle.desk_record.specs.Recording.{FailsToWrite, HasWritten, TakesBack, WritesDown}
use Rattle.desk_record.specs.RecordStanding.{FailsToTake, IsUntouched, PutsLast, RecordStanding, Shuts, TakesLast}
use Rattle.desk_record.proofs.LineLemmas.{IsWhole-more, between-lines, whole-append, whole_lines-one}
use Rattle.store.specs.declared.fault.StoreFault.{StoreFault}
use Rattle.store.specs.declared.fault.StoreFault.TheVariants.{NoMemory, Failed, Shut, BadRow}
use Rattle.store.specs.Standing.{Content, Goes, Standing, sound}
use Rattle.store.proofs.ReadLemmas.{stays_open, was_open}

-- ---- what is listed

abbrev listed_in : Building → List (List ℕ) → List Delivery
listed_in building lines = flat_map (λ line. deliveries_in (parse_line building line)) lines

pub listed-same : (b : Building) (bytes more : List ℕ) → whole_lines more ≡ whole_lines bytes → listed b more ≡ listed b bytes
unfolding listed
listed-same b bytes more same = ap (listed_in b) same

pub listed-more : (b : Building) (d : Delivery) (bytes line more : List ℕ) → IsLineOf b d line
    → whole_lines more ≡ whole_lines bytes ++ line ∷ [] → listed b more ≡ listed b bytes ++ d ∷ []
unfolding listed
listed-more b d bytes line more is same =
    ap (listed_in b) same
    ∙ flat_map-append (λ line. deliveries_in (parse_line b line)) (whole_lines bytes) (line ∷ [])
    ∙ ap (λ reported. listed_in b (whole_lines bytes) ++ (deliveries_in reported ++ [])) is.tells

pub listed-put : (b : Building) (d : Delivery) (bytes line : List ℕ) → IsWhole bytes → IsLineOf b d line
    → listed b (bytes ++ (line ++ 10 ∷ [])) ≡ listed b bytes ++ d ∷ []
listed-put b d bytes line whole is =
    listed-more b d bytes line (bytes ++ (line ++ 10 ∷ [])) is
    (whole-append bytes (line ++ 10 ∷ []) whole ∙ ap (λ lines. whole_lines bytes ++ lines) (whole_lines-one line is.one))

-- a record that a delivery was written down in tells it last
pub listed-written : (b : Building) (d : Delivery) (E : List Delivery) (old new : RecordStanding) (store : Standing)
    → InStep b E old store → HasWritten b d old new → listed b new.bytes ≡ listed b old.bytes ++ d ∷ []
listed-written b d E old new store step (line, is, put) =
    ap (listed b) put.bytes ∙ listed-put b d old.bytes line (step.level put.was_open).whole is

-- what a stop leaves of one line more
pub Follows-between : (b : Building) (E : List Delivery) (d : Delivery) (bytes line left : List ℕ) (content : Content) → IsWhole bytes
    → IsLineOf b d line → IsBetween bytes (bytes ++ (line ++ 10 ∷ [])) left → content ≡ sound (tables b (E ++ listed b bytes))
    → Follows b E (listed b left) content
Follows-between b E d bytes line left content whole is between held = elim (between-lines bytes line left whole is.one between) [
  | inl same ↦ inl (held ∙ ap (λ list. sound (tables b (E ++ list))) (sym (listed-same b bytes left same)))
  | inr more ↦ inr (listed b bytes, d, listed-more b d bytes line left is more, held)
]

-- ---- the record's own calls

module _ (b : Building) (E : List Delivery) (old new : RecordStanding) (store : Standing) (step : InStep b E old store) where
  pub InStep-untouched : IsUntouched old new → InStep b E new store
  InStep-untouched same = record {
    level = λ opened.
        let was = step.level (sym same.is_shut ∙ opened) in
        record {
          whole = subst IsWhole (sym same.bytes) was.whole;
          on_disk = λ bytes left. was.on_disk bytes (same.leaves bytes left) ∙ sym same.bytes;
          holds = λ going. was.holds going ∙ ap (λ bytes. sound (tables b (E ++ listed b bytes))) (sym same.bytes);
          leaves = λ content left. was.leaves content left ∙ ap (λ bytes. sound (tables b (E ++ listed b bytes))) (sym same.bytes);
        };
    held = λ going bytes left. step.held going bytes (same.leaves bytes left);
    left = λ bytes content left. step.left bytes content (same.leaves bytes left);
  }

  pub InStep-unwritten : (d : Delivery) → FailsToWrite b d old new → InStep b E new store
  InStep-unwritten d fails = record {
    level = λ opened. absurd (false≢true (sym opened ∙ fails.shut));
    held = λ going bytes left. elim (fails.leaves bytes left) [
      | inl before ↦ step.held going bytes before
      | inr (line, is, opened, between) ↦
          let was = step.level opened in Follows-between b E d old.bytes line bytes store.content was.whole is between (was.holds going)
    ];
    left = λ bytes content left held. elim (fails.leaves bytes left) [
      | inl before ↦ step.left bytes content before held
      | inr (line, is, opened, between) ↦
          let was = step.level opened in Follows-between b E d old.bytes line bytes content was.whole is between (was.leaves content held)
    ];
  }

  pub InStep-refused : (d : Delivery) (fault : RecordFault) → new.is_honest → WritesDown b d (Some fault) old new → InStep b E new store
  InStep-refused d recording.NoMemory honest writes = InStep-untouched (writes.unchanged honest refl)
  InStep-refused d recording.Failed honest writes = InStep-unwritten d (writes.failed honest refl)

pub written-line : (b : Building) (d : Delivery) (old new : RecordStanding) → new.is_honest → WritesDown b d None old new
    → HasWritten b d old new
written-line b d old new honest writes = writes.written honest refl

pub taken-back : (old new : RecordStanding) → new.is_honest → TakesBack None old new → TakesLast old new
taken-back old new honest takes = takes.taken honest refl

-- ---- a delivery behind its line

pub HasTables-settled : (b : Building) (list : List Delivery) (fault : Option StoreFault) (old new : Standing) → new.is_honest
    → Goes fault old new → new.is_shut ≡ false → Holds b list new → HasTables b list new
HasTables-settled b list fault old new honest goes opened held = record {
  holds = λ going. held;
  leaves = λ content left. goes.settled honest opened content left ∙ held;
}

module _ (b : Building) (E : List Delivery) (d : Delivery) (line : List ℕ) (first written : RecordStanding) (old new : Standing)
    (step : InStep b E first old) (is : IsLineOf b d line) (put : PutsLast (line ++ 10 ∷ []) first written) where
  was : AreLevel b E first old
  was = step.level put.was_open

  one_more : listed b written.bytes ≡ listed b first.bytes ++ d ∷ []
  one_more = ap (listed b) put.bytes ∙ listed-put b d first.bytes line was.whole is

  same_tables : (list : List Delivery) (content : Content) → list ≡ listed b first.bytes ++ d ∷ []
      → content ≡ sound (tables b ((E ++ listed b first.bytes) ++ d ∷ [])) → content ≡ sound (tables b (E ++ list))
  same_tables list content is held =
      held ∙ ap (λ it. sound (tables b it)) (append_assoc E (listed b first.bytes) (d ∷ []) ∙ ap (λ it. E ++ it) (sym is))

  pub InStep-answered : (reply : Reply) → new.is_honest → Goes None old new
      → ((earlier : List Delivery) → Holds b earlier old → Delivers b earlier d (Ok reply) new) → InStep b E written new
  InStep-answered reply honest goes delivers =
      let opened = was_open None old new goes (λ e. cc) in
      let held = same_tables (listed b written.bytes) new.content one_more (delivers (E ++ listed b first.bytes) (was.holds opened)).1 in
      let has = HasTables-settled b (E ++ listed b written.bytes) None old new honest goes (stays_open old new goes) held in
      record {
        level = λ going. record {
          whole = subst IsWhole (sym put.bytes) (IsWhole-more first.bytes line);
          on_disk = put.on_disk;
          holds = has.holds;
          leaves = has.leaves;
        };
        held = λ going bytes left. inl (has.holds going ∙ ap (λ it. sound (tables b (E ++ listed b it))) (sym (put.on_disk bytes left)));
        left = λ bytes content left kept.
            inl (has.leaves content kept ∙ ap (λ it. sound (tables b (E ++ listed b it))) (sym (put.on_disk bytes left)));
      }

  pub InStep-failed : (last : RecordStanding) → last.is_honest → Shuts written last → Goes (Some Failed) old new
      → ((earlier : List Delivery) → Holds b earlier old → Delivers b earlier d (Err Failed) new) → InStep b E last new
  InStep-failed last honest shuts goes delivers =
      let opened = was_open (Some Failed) old new goes (λ e. cc) in
      record {
        level = λ going. absurd (false≢true (sym going ∙ shuts.shut honest));
        held = λ going bytes left. absurd (false≢true (sym going ∙ (goes.failed refl).0));
        left = λ bytes content left kept.
            let list : listed b bytes ≡ listed b first.bytes ++ d ∷ [] =
            ap (listed b) (put.on_disk bytes (shuts.leaves honest bytes left)) ∙ one_more in
            elim (delivers (E ++ listed b first.bytes) (was.holds opened) content kept) [
              | inl before ↦ inr (listed b first.bytes, d, list, before)
              | inr after ↦ inl (same_tables (listed b bytes) content list after)
            ];
      }

  -- a delivery that is not made leaves the store what it had
  kept : (fault : StoreFault) → (fault ≡ Failed → ⊥) → new.is_honest → Goes (Some fault) old new
      → ((earlier : List Delivery) → Holds b earlier old → Delivers b earlier d (Err fault) new) → HasTables b (E ++ listed b first.bytes) new
  kept NoMemory other honest goes delivers =
      let opened = was_open (Some NoMemory) old new goes (λ e. cc) in
      HasTables-settled b (E ++ listed b first.bytes) (Some NoMemory) old new honest goes (goes.goes_on (λ e. cc) ∙ opened)
      (delivers (E ++ listed b first.bytes) (was.holds opened))
  kept Failed other honest goes delivers = absurd (other refl)
  kept Shut other honest goes delivers =
      let shut = goes.shut.0 refl in
      let same = goes.untouched honest shut in
      record {
        holds = λ going. absurd (false≢true (sym going ∙ (goes.goes_on (λ e. cc) ∙ shut)));
        leaves = λ content left. was.leaves content (same.leaves content left);
      }
  kept BadRow other honest goes delivers =
      let opened = was_open (Some BadRow) old new goes (λ e. cc) in absurd (delivers (E ++ listed b first.bytes) (was.holds opened))

  pub InStep-taken : (last : RecordStanding) (fault : StoreFault) → (fault ≡ Failed → ⊥) → new.is_honest → Goes (Some fault) old new
      → ((earlier : List Delivery) → Holds b earlier old → Delivers b earlier d (Err fault) new) → TakesLast written last
      → InStep b E last new
  InStep-taken last fault other honest goes delivers takes =
      let has = kept fault other honest goes delivers in
      let back : last.bytes ≡ first.bytes = takes.bytes ∙ put.before in
      let tables_at = λ (bytes : List ℕ). sound (tables b (E ++ listed b bytes)) in
      record {
        level = λ going. record {
          whole = subst IsWhole (sym back) was.whole;
          on_disk = takes.on_disk;
          holds = λ opened. has.holds opened ∙ ap tables_at (sym back);
          leaves = λ content left. has.leaves content left ∙ ap tables_at (sym back);
        };
        held = λ going bytes left. inl (has.holds going ∙ ap tables_at (sym (takes.on_disk bytes left ∙ back)));
        left = λ bytes content left held. inl (has.leaves content held ∙ ap tables_at (sym (takes.on_disk bytes left ∙ back)));
      }

  pub InStep-untaken : (last : RecordStanding) (fault : StoreFault) → (fault ≡ Failed → ⊥) → new.is_honest → Goes (Some fault) old new
      → ((earlier : List Delivery) → Holds b earlier old → Delivers b earlier d (Err fault) new) → FailsToTake written last
      → InStep b E last new
  InStep-untaken last fault other honest goes delivers fails =
      let has = kept fault other honest goes delivers in
      record {
        level = λ going. absurd (false≢true (sym going ∙ fails.shut));
        held = λ going bytes left. elim (fails.leaves bytes left) [
          | inl there ↦ inr (listed b first.bytes, d, ap (listed b) (put.on_disk bytes there) ∙ one_more, has.holds going)
          | inr (opened, between) ↦
              let part : IsBetween first.bytes (first.bytes ++ (line ++ 10 ∷ [])) bytes =
              subst (λ file. IsBetween first.bytes file bytes) put.bytes
              (subst (λ file. IsBetween file written.bytes bytes) put.before between) in
              Follows-between b E d first.bytes line bytes new.content was.whole is part (has.holds going)
        ];
        left = λ bytes content left held. elim (fails.leaves bytes left) [
          | inl there ↦ inr (listed b first.bytes, d, ap (listed b) (put.on_disk bytes there) ∙ one_more, has.leaves content held)
          | inr (opened, between) ↦
              let part : IsBetween first.bytes (first.bytes ++ (line ++ 10 ∷ [])) bytes =
              subst (λ file. IsBetween first.bytes file bytes) put.bytes
              (subst (λ file. IsBetween file written.bytes bytes) put.before between) in
              Follows-between b E d first.bytes line bytes content was.whole is part (has.leaves content held)
        ];
      }

  pub InStep-back : (last : RecordStanding) (fault : StoreFault) (failed : RecordFault) → (fault ≡ Failed → ⊥) → new.is_honest → last.is_honest
      → Goes (Some fault) old new → ((earlier : List Delivery) → Holds b earlier old → Delivers b earlier d (Err fault) new)
      → TakesBack (Some failed) written last → InStep b E last new
  InStep-back last fault recording.NoMemory other honest honest_record goes delivers takes = absurd (takes.never_memory honest_record refl)
  InStep-back last fault recording.Failed other honest honest_record goes delivers takes =
      InStep-untaken last fault other honest goes delivers (takes.failed honest_record refl)

-- a delivery that is not made leaves the store what it held
pub Holds-back : (b : Building) (earlier : List Delivery) (d : Delivery) (fault : StoreFault) (now : Standing) → (fault ≡ Failed → ⊥)
    → Delivers b earlier d (Err fault) now → Holds b earlier now
Holds-back b earlier d NoMemory now other delivers = delivers
Holds-back b earlier d Failed now other delivers = absurd (other refl)
Holds-back b earlier d Shut now other delivers = delivers
Holds-back b earlier d BadRow now other delivers = absurd delivers
