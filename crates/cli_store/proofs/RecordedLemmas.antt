-- What is recorded, and what follows from it.
use Rattle.std.proofs.Common.{◌≡◌, ◌∙◌, ℕ, false, List, [], ◌∷◌, ◌++◌, Option, None, Ok, ap, append_assoc, sym, subst}
use Rattle.std.specs.Io.KnownBytes.{Appends}
use Rattle.building.specs.Building.{Building}
use Rattle.deliveries.specs.declared.delivery.Delivery.{Delivery}
use Rattle.deliveries.specs.declared.reply.Reply.{Reply}
use Rattle.deliveries.specs.Delivered.{Delivers, Holds}
use Rattle.deliveries.specs.Tables.{tables}
use Rattle.delivery_json.specs.ReplyText.{reply_line}
use Rattle.desk.specs.Opening.{Opens}
use Rattle.desk_record.specs.Lines.{IsWhole}
use Rattle.desk_record.specs.Recorded.{Follows, InStep, IsBehind, listed}
use Rattle.desk_record.specs.Recording.{HasWritten}
use Rattle.desk_record.specs.RecordStanding.{RecordStanding}
use Rattle.desk_record.proofs.InStepLemmas.{listed-written}
use Rattle.sqlite_disk.specs.Disk.{Only}
use Rattle.store.specs.Standing.{Content, Goes, Standing, sound}
use Rattle.store.proofs.ReadLemmas.{was_open}
use Rattle.cli_record.specs.Beside.{HoldsStill}
use Rattle.cli_store.specs.Answered.{Answers}
use Rattle.cli_store.specs.Recorded.{Adds, Records}

-- a store over which a desk was opened is behind a list as before
pub behind-opened : (b building : Building) (E list : List Delivery) (old new : Standing) → Opens building None old new → new.is_honest
    → IsBehind b E list old → IsBehind b E list new
behind-opened b building E list old new opened honest behind =
    let was = was_open None old new opened.goes (λ e. cc) in
    let held : Follows b E list old.content = behind.holds was in
    record {
      holds = λ going. subst (λ (it : Content). Follows b E list it) (sym (opened.kept honest (λ e. cc))) held;
      leaves = λ content left. subst (λ (it : Content). Follows b E list it) (sym (opened.left honest was content left)) held;
    }

-- one that was only read is behind it as before
pub behind-still : (b : Building) (E list : List Delivery) (old new : Standing) → HoldsStill old new → old.is_shut ≡ false → new.is_honest
    → IsBehind b E list old → IsBehind b E list new
behind-still b E list old new still was honest behind =
    let held : Follows b E list old.content = behind.holds was in
    record {
      holds = λ going. subst (λ (it : Content). Follows b E list it) (sym (still.kept honest going)) held;
      leaves = λ content left. subst (λ (it : Content). Follows b E list it) (sym (still.left honest was content left)) held;
    }

-- a delivery that was written down and answered
pub adds : (b : Building) (E : List Delivery) (d : Delivery) (first last : RecordStanding) (before now : Standing) (reply : Reply)
    (old new : Option (List ℕ)) → InStep b E first before → InStep b E last now → HasWritten b d first last → Goes None before now
    → ((earlier : List Delivery) → Holds b earlier before → Delivers b earlier d (Ok reply) now)
    → Appends old new (reply_line reply) → Adds b E d first last now old new
adds b E d first last before now reply old new step after (line, is, put) goes delivers printed =
    let was = step.level put.was_open in
    let answered = delivers (E ++ listed b first.bytes) (was.holds (was_open None before now goes (λ e. cc))) in
    record {
      lists = listed-written b d E first last before step (line, is, put);
      is_open = put.is_open;
      level = after.level put.is_open;
      answers = record { printed = subst (λ it. Appends old new (reply_line it)) answered.0 printed; holds = answered.1 };
    }

-- on the disk of a record that answered these deliveries
pub records : (b : Building) (E list : List Delivery) (d : Delivery) (first last : RecordStanding) (left : Standing) (file : List ℕ)
    (may_leave : List ℕ → Type 0) (old new : Option (List ℕ)) → listed b first.bytes ≡ list → last.bytes ≡ file → Only file may_leave
    → Adds b E d first last left old new → Records b E list d left file may_leave old new
records b E list d first last left file may_leave old new is same only adds =
    let lists = adds.lists ∙ ap (λ it. it ++ d ∷ []) is in
    record {
      answers = subst (λ it. Answers b (E ++ it) d left old new) is adds.answers;
      leaves = λ content held. adds.level.leaves content held
          ∙ ap (λ it. sound (tables b it)) (ap (λ it. E ++ it) lists ∙ sym (append_assoc E list (d ∷ [])));
      lists = ap (listed b) (sym same) ∙ lists;
      whole = subst IsWhole same adds.level.whole;
      on_disk = only;
    }
