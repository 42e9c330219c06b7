use Rattle.std.proofs.Common.{◌||◌, false}
use Rattle.std.specs.Str.{bytes_eq}
use Rattle.store_memory.specs.Memory.{standing_of}
use Rattle.desk_why.proofs.BeginLemmas.{IsHeld-begun, same_text}
use Rattle.desk_why.proofs.authors.Authors.before_at.Goals as goal

pub returns-clause-held : goal.returns-clause-held
returns-clause-held c = λ b E held.
    let name = c.args.point.now in
    let before = standing_of c.args.store.now in
    IsHeld-begun b E before held (λ q. false || bytes_eq name q) c.begin_at.new.self
    (c.in_ok-begin_at.ensures.begun (λ q. false) (c.new-authors.ensures before.content.tables.places)) name (same_text name)
