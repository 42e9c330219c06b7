-- How the record of a run stands, if it keeps one.
use Rattle.std.specs.Prelude.{[], false, Option, Some, None}
use Rattle.desk_record.specs.RecordStanding.{RecordStanding}
use Rattle.cli_store.specs.declared.keeper.Keeper.{Keeper}

-- nothing is said of a record that is not kept
abbrev pub unkept : RecordStanding
unkept = record { bytes = []; before = []; is_shut = false; is_honest = ⊥; may_leave = λ bytes. ⊥ }

abbrev pub standing_with : {R : Type 0} → (R → RecordStanding) → Option R → RecordStanding
standing_with standing None = unkept
standing_with standing (Some kept) = standing kept

abbrev pub standing_of : {R : Type 0} → (R → RecordStanding) → Keeper R → RecordStanding
standing_of standing keeper = standing_with standing keeper.kept
