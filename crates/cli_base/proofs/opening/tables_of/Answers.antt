use Rattle.std.proofs.Common.{◌∙◌, List, Option, ap, subst, sym}
use Rattle.deliveries.proofs.EmptyLemmas.{tables-none}
use Rattle.deliveries.specs.declared.delivery.Delivery.{Delivery}
use Rattle.deliveries.specs.Tables.{tables}
use Rattle.store.specs.Standing.{sound}
use Rattle.store_memory.specs.declared.mem_store.MemStore.{MemStore}
use Rattle.store_memory.specs.Memory.{standing_of}
use Rattle.cli_base.specs.Base.{BeginsOn}
use Rattle.cli_base.proofs.opening.tables_of.Goals as goal

pub returns-in-Some : goal.returns-in-Some
returns-in-Some c = λ building earlier begins.
    subst (λ (base : Option MemStore). BeginsOn standing_of building earlier base) c.in-Some.is begins

pub returns-in-None : goal.returns-in-None
returns-in-None c = λ building earlier begins.
    let none = subst (λ (base : Option MemStore). BeginsOn standing_of building earlier base) c.in-None.is begins in
    c.new.ensures.empty ∙ ap sound (tables-none building)
    ∙ ap (λ (list : List Delivery). sound (tables building list)) (sym none)
