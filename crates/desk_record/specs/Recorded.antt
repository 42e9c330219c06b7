-- What a record tells, and how a store follows it.
use Rattle.std.specs.Prelude.{◌≡◌, ◌⊎◌, ℕ, false, List, [], ◌∷◌, ◌++◌, Option, Some, None}
use Rattle.std.specs.List.{flat_map}
use Rattle.building.specs.Building.{Building}
use Rattle.deliveries.specs.declared.delivery.Delivery.{Delivery}
use Rattle.deliveries.specs.Delivered.{Holds}
use Rattle.deliveries.specs.Tables.{tables}
use Rattle.delivery_json.specs.declared.parsed_line.ParsedLine.{ParsedLine}
use Rattle.delivery_json.specs.declared.parsed_line.ParsedLine.TheVariants as parsed
use Rattle.delivery_json.specs.DeliveryLine.{parse_line}
use Rattle.desk_record.specs.Lines.{IsWhole, whole_lines}
use Rattle.delivery_json.specs.LineEnds.{IsLine}
use Rattle.desk_record.specs.RecordStanding.{IsOnDisk, RecordStanding}
use Rattle.store.specs.Standing.{Content, Standing, sound}

-- the delivery that a line tells, or none
abbrev pub deliveries_in : Option ParsedLine → List Delivery
deliveries_in None = []
deliveries_in (Some (parsed.Delivery delivery)) = delivery ∷ []
deliveries_in (Some (parsed.RefusedImport fault)) = []

-- the deliveries that the whole lines of a record tell
unfoldable pub listed : Building → List ℕ → List Delivery
listed building bytes = flat_map (λ line. deliveries_in (parse_line building line)) (whole_lines bytes)

-- a line, without its end, that tells a delivery
pub record IsLineOf (building : Building) (delivery : Delivery) (line : List ℕ) : Type 0 where
  pub one : IsLine line
  pub tells : parse_line building line ≡ Some (parsed.Delivery delivery)

-- after earlier deliveries the tables of a list, or of all but its last, which was written down and not made
abbrev pub Follows : Building → (earlier deliveries : List Delivery) → Content → Type 0
Follows building earlier deliveries content =
    (content ≡ sound (tables building (earlier ++ deliveries)))
    ⊎ ((before : List Delivery) × (last : Delivery) × (deliveries ≡ before ++ last ∷ [])
    × (content ≡ sound (tables building (earlier ++ before))))

-- a store that follows a list after earlier deliveries: while it is open, and as a stop leaves it
pub record IsBehind (building : Building) (earlier deliveries : List Delivery) (store : Standing) : Type 0 where
  pub holds : store.is_shut ≡ false → Follows building earlier deliveries store.content
  pub leaves : (content : Content) → store.may_leave content → Follows building earlier deliveries content

-- a store that has the tables of a list: while it is open, and as a stop leaves it
pub record HasTables (building : Building) (deliveries : List Delivery) (store : Standing) : Type 0 where
  pub holds : store.is_shut ≡ false → Holds building deliveries store
  pub leaves : (content : Content) → store.may_leave content → content ≡ sound (tables building deliveries)

-- a record that is open, and began after earlier deliveries: its bytes are whole lines, and a stop leaves just them; the store
-- has the tables of these and of their deliveries, while it is open and as a stop leaves it
pub record AreLevel (building : Building) (earlier : List Delivery) (record_now : RecordStanding) (store : Standing) : Type 0 where
  pub whole : IsWhole record_now.bytes
  pub on_disk : IsOnDisk record_now
  pub holds : store.is_shut ≡ false → Holds building (earlier ++ listed building record_now.bytes) store
  pub leaves : (content : Content) → store.may_leave content
      → content ≡ sound (tables building (earlier ++ listed building record_now.bytes))

-- a record that began after earlier deliveries, and a store: level while the record is open; what an open store holds, and what
-- a stop leaves of it, follows whatever a stop leaves of the record
pub record InStep (building : Building) (earlier : List Delivery) (record_now : RecordStanding) (store : Standing) : Type 0 where
  pub level : record_now.is_shut ≡ false → AreLevel building earlier record_now store
  pub held : store.is_shut ≡ false → (bytes : List ℕ) → record_now.may_leave bytes
      → Follows building earlier (listed building bytes) store.content
  pub left : (bytes : List ℕ) (content : Content) → record_now.may_leave bytes → store.may_leave content
      → Follows building earlier (listed building bytes) content
