-- The table is held against the definition at each of the 256 bytes, by computing.
use Rattle.std.proofs.Common.{◌==◌, not, get_or, refl, arith}
use Rattle.std.proofs.lemmas.Bool.{agree_below_at}
use Rattle.points.specs.Name.{is_name_byte}
use Rattle.points.specs.declared.name.TheConstants.{NAME_BYTES}
use Rattle.points.proofs.name.is_name_byte.Goals as goal

pub returns : goal.returns
returns c = rw c.from.ensures
    (agree_below_at (λ byte. not (get_or NAME_BYTES byte 0 == 44)) is_name_byte 256 c.args.byte refl (omega arith))
