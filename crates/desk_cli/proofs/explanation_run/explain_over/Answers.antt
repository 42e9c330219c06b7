use Rattle.std.proofs.Common.{◌∙◌, Err, Ok, OnOk, Result, ap, subst, sym}
use Rattle.building.specs.Building.{Building, contents_of}
use Rattle.deliveries.specs.Delivered.{Holds}
use Rattle.store_memory.specs.declared.mem_store.MemStore.{MemStore}
use Rattle.store_memory.specs.Memory.{standing_of}
use Rattle.desk_cli.proofs.explanation_run.explain_over.Goals as goal

-- what follows from what an `Ok` holds, holds at it
on_ok : {T E : Type 0} (r : Result T E) {P Q : Type 0} → (P → Q) → OnOk r P → OnOk r Q
on_ok {T} {E} (Ok x) {P} {Q} f p = f p
on_ok {T} {E} (Err e) {P} {Q} f p = tt

pub returns-clause-done : goal.returns-clause-done
returns-clause-done g c = on_ok c.explain_asked.result (λ done file_bytes list_bytes earlier file list stands.
    let read = c.in_ok-building.ensures file_bytes file in
    let same = sym (c.into_parts-building.ensures.building ∙ c.in_ok-desk.ensures.building) in
    let held = subst (λ (store : MemStore). Holds c.in_ok-building.building earlier (standing_of store)) (sym c.into_parts-building.ensures.store)
    (c.in_ok-desk.ensures.holds earlier (stands c.in_ok-building.building read)) in
    done file_bytes list_bytes earlier (read ∙ ap (λ (b : Building). Ok (contents_of b)) same) list
    (subst (λ (b : Building). Holds b earlier (standing_of c.into_parts-building.result.1)) same held)) c.explain_asked.ensures.done

pub returns-clause-no_more : goal.returns-clause-no_more
returns-clause-no_more g c = λ file_bytes list_bytes earlier file list stands.
    let read = c.in_ok-building.ensures file_bytes file in
    let same = sym (c.into_parts-building.ensures.building ∙ c.in_ok-desk.ensures.building) in
    let held = subst (λ (store : MemStore). Holds c.in_ok-building.building earlier (standing_of store)) (sym c.into_parts-building.ensures.store)
    (c.in_ok-desk.ensures.holds earlier (stands c.in_ok-building.building read)) in
    c.explain_asked.ensures.no_more file_bytes list_bytes earlier (read ∙ ap (λ (b : Building). Ok (contents_of b)) same) list
    (subst (λ (b : Building). Holds b earlier (standing_of c.into_parts-building.result.1)) same held)
