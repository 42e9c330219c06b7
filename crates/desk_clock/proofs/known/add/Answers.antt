use Rattle.std.proofs.Common.{◌∙◌, ◌&&◌, ◌||◌, Bool, ap}
use Rattle.std.specs.Str.{bytes_eq}
use Rattle.dates.specs.Entry.{spelling}
use Rattle.desk_clock.specs.Knowing.{in_file, is_read}
use Rattle.desk_clock.proofs.KnowingLemmas.{add-knows}
use Rattle.store_memory.specs.Held.{imported_of}
use Rattle.points.specs.Texts.{Text}
use Rattle.desk_clock.proofs.known.add.Goals as goal

pub returns-clause-knows : goal.returns-clause-knows
returns-clause-knows c = λ building table items knew.
    let item = c.args.item.now in
    let old = c.args.known.now in
    add-knows (λ q text. in_file building q text || table q text) items item (imported_of old.texts) (imported_of c.put.new.self) (is_read old)
    (λ q text.
    ap (λ (f : Text → Text → Bool). f q text) c.put.ensures
    ∙ ap (λ (b : Bool). (bytes_eq item.calendar q && bytes_eq (spelling item.entry) text) || b) (c.make_room.ensures.same q text))
    knew
