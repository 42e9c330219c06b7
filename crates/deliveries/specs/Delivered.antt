-- One delivery to a store that holds the tables of earlier ones.
use Rattle.std.specs.Prelude.{◌≡◌, ◌⊎◌, false, List, [], ◌∷◌, ◌++◌, Result, Ok, Err}
use Rattle.store.specs.declared.fault.StoreFault.{StoreFault}
use Rattle.store.specs.declared.fault.StoreFault.TheVariants.{NoMemory, Failed, Shut, BadRow}
use Rattle.store.specs.Standing.{Content, Standing, sound}
use Rattle.building.specs.Building.{Building}
use Rattle.deliveries.specs.declared.delivery.Delivery.{Delivery}
use Rattle.deliveries.specs.declared.reply.Reply.{Reply}
use Rattle.deliveries.specs.Reply.{reply}
use Rattle.deliveries.specs.Tables.{tables}

-- what a store holds after a list of deliveries: their tables, all rows sound
abbrev pub Holds : Building → List Delivery → Standing → Type 0
Holds building deliveries standing = standing.content ≡ sound (tables building deliveries)

-- a stop leaves one of two lists' tables
abbrev pub LeavesEither : Building → List Delivery → List Delivery → Standing → Type 0
LeavesEither building before after standing = (content : Content) → standing.may_leave content
    → (content ≡ sound (tables building before)) ⊎ (content ≡ sound (tables building after))

-- One delivery. Answered: the reply is the definition's, and the store holds the tables of one delivery more.
-- After a want of memory it holds what it held. After a failure it is shut, and opened again it holds the one
-- or the other. A store that was shut before holds what it held; a row that cannot stand is never met.
abbrev pub Delivers : Building → List Delivery → Delivery → Result Reply StoreFault → Standing → Type 0
Delivers building earlier delivery (Ok reported) now =
    (reported ≡ reply building earlier delivery) × Holds building (earlier ++ delivery ∷ []) now
Delivers building earlier delivery (Err NoMemory) now = Holds building earlier now
Delivers building earlier delivery (Err Failed) now = LeavesEither building earlier (earlier ++ delivery ∷ []) now
Delivers building earlier delivery (Err Shut) now = Holds building earlier now
Delivers building earlier delivery (Err BadRow) now = ⊥

-- what is imported stays as it is, as long as the store is open
abbrev pub KeepsImported : Standing → Standing → Type 0
KeepsImported old new = new.is_honest → new.is_shut ≡ false → new.content.tables.imported ≡ old.content.tables.imported
