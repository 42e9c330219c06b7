use Rattle.std.proofs.Common.{◌∙◌}
use Rattle.points.specs.NameHeld.{padded-over}
use Rattle.points.proofs.name.padded.Goals as goal

-- src/name.rt:66:1
pub returns : goal.returns
returns c = padded-over c.args.text.now c.copy_from_slice.new.self (c.copy_from_slice.ensures.after ∙ c.as_bytes.ensures.value)
