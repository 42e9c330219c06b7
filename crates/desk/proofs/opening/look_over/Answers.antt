use Rattle.std.proofs.Common.{◌∙◌, sym}
use Rattle.std.specs.Result.{result_err}
use Rattle.desk.proofs.OpeningLemmas.{on_ok, Opens-read, Opens-unknown, Opens-unticked}
use Rattle.desk.proofs.opening.look_over.Goals as goal

pub returns-then-not-are_known : goal.returns-then-not-are_known
returns-then-not-are_known g c =
    let old = g.S.Store.standing c.args.store.now in
    let new = g.S.Store.standing c.names.new.self in
    Opens-unknown c.args.building.now old new c.in_ok-names.names c.in_ok-names.ensures.reads c.in_ok-names.ensures.value
    (sym c.are_known.ensures ∙ c.if-not-are_known.true)

pub returns-then-not-is_ticked : goal.returns-then-not-is_ticked
returns-then-not-is_ticked g c =
    Opens-unticked c.args.building.now (g.S.Store.standing c.args.store.now) (g.S.Store.standing c.names.new.self)
    (g.S.Store.standing c.last_tick.new.self)
    c.in_ok-last.last c.in_ok-names.ensures.reads c.in_ok-last.ensures.reads c.in_ok-last.ensures.value
    (sym c.is_ticked.ensures ∙ c.if-not-is_ticked.true)

pub returns : goal.returns
returns g c =
    Opens-read c.args.building.now (g.S.Store.standing c.args.store.now) (g.S.Store.standing c.names.new.self)
    (g.S.Store.standing c.last_tick.new.self)
    c.in_ok-last.last c.in_ok-names.ensures.reads c.in_ok-last.ensures.reads c.in_ok-last.ensures.value
    (result_err c.read_rows.result) (g.S.Store.standing c.read_rows.new.store)
    c.in_ok-names.names c.in_ok-names.ensures.value (sym c.are_known.ensures ∙ c.if-not-are_known.false)
    (sym c.is_ticked.ensures ∙ c.if-not-is_ticked.false) c.read_rows.ensures.reads c.in_ok-names.ensures.stood
    c.in_ok-last.ensures.judges (λ honest none. on_ok c.read_rows.result (rw c.as_slice.ensures.value at (c.read_rows.ensures.stood honest)) none)
