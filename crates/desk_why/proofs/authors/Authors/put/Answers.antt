use Rattle.std.proofs.Common.{◌∙◌, ◌&&◌, ◌==◌, cond, Option, option_copied, sym, ap}
use Rattle.std.specs.Str.{bytes_eq}
use Rattle.desk_why.specs.declared.author.Held.{Held}
use Rattle.desk_why.specs.AuthorsTable.{held_in}
use Rattle.desk_why.proofs.authors.Authors.put.Goals as goal

pub returns-in_ok-insert-in-Some : goal.returns-in_ok-insert-in-Some
returns-in_ok-insert-in-Some c = λ q r.
    c.in_ok-insert-in-Some.ensures.updates.0 (record { point = q; priority = r })
    ∙ ap (λ (held : Option Held). cond (bytes_eq c.args.point.now q && c.args.priority == r) held (held_in c.args.self.now q r))
    (sym (ap option_copied c.in-Some.is))

pub returns-in-None : goal.returns-in-None
returns-in-None c = λ q r.
    c.remove.ensures.updates.0 (record { point = q; priority = r })
    ∙ ap (λ (held : Option Held). cond (bytes_eq c.args.point.now q && c.args.priority == r) held (held_in c.args.self.now q r))
    (sym (ap option_copied c.in-None.is))
