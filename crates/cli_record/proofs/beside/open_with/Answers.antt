use Rattle.std.proofs.Common.{◌≡◌, ◌∙◌, ◌&&◌, ◌||◌, Bool, ap, false, is_none, not, rules, subst, sym, true}
use Rattle.building.specs.Building.{Building}
use Rattle.cli_record.specs.Beside.{OpensOver, RefusesOver}
use Rattle.cli_record.proofs.BesideLemmas.{if-err, if-ok, misses_deliveries, misses_none, opens-beside, refuses-beside}
use Rattle.cli_record.proofs.beside.open_with.Goals as goal

pub returns-in-Ok-opener-clause-opened : goal.returns-in-Ok-opener-clause-opened
returns-in-Ok-opener-clause-opened g c = λ base has_base begins.
    let lacks : c.lacks_database.result ≡ false = search rules in
    let same = ap (λ (has : Bool). c.args.database.is_missing && (has || not (is_none c.in-Ok.replayed.last))) has_base in
    if-ok c.open_over.result (λ it over.
    opens-beside g.S.Store.standing _ c.args.database.is_missing c.args.desk.building base _ c.in-Ok.replayed.last
    (g.T.Store.standing c.in-Ok.replayed.store) c.in-Ok-opener.store c.in-Ok-opener.ensures
    (λ earlier bytes begun has. c.in-Ok.ensures.replayed earlier bytes (begins earlier begun) has (c.requires.honest _))
    (same ∙ sym c.lacks_database.ensures ∙ lacks) it.otherwise (g.S.Store.standing it.desk.store)
    (subst (λ (b : Building). OpensOver b c.in-Ok.replayed.last (g.T.Store.standing c.in-Ok.replayed.store) it.otherwise
    (g.S.Store.standing c.in-Ok-opener.store) (g.S.Store.standing it.desk.store)) c.in-Ok.ensures.building over))
    c.open_over.ensures.opened

pub returns-in-Ok-opener-clause-refused : goal.returns-in-Ok-opener-clause-refused
returns-in-Ok-opener-clause-refused g c = λ base has_base begins.
    let lacks : c.lacks_database.result ≡ false = search rules in
    let same = ap (λ (has : Bool). c.args.database.is_missing && (has || not (is_none c.in-Ok.replayed.last))) has_base in
    if-err c.open_over.result (λ end over left is.
    refuses-beside g.S.Store.standing _ c.args.database.is_missing c.args.desk.building base _ c.in-Ok.replayed.last
    (g.T.Store.standing c.in-Ok.replayed.store) c.in-Ok-opener.store c.in-Ok-opener.ensures
    (λ earlier bytes begun has. c.in-Ok.ensures.replayed earlier bytes (begins earlier begun) has (c.requires.honest _))
    (same ∙ sym c.lacks_database.ensures ∙ lacks) end.fault over.0 left (sym over.1 ∙ is)
    (subst (λ (b : Building). RefusesOver b c.in-Ok.replayed.last (g.T.Store.standing c.in-Ok.replayed.store)
    (g.S.Store.standing c.in-Ok-opener.store) (g.S.Store.standing over.0) end.fault) c.in-Ok.ensures.building over.2))
    c.open_over.ensures.refused

pub returns-in-Ok-opener-clause-no_database : goal.returns-in-Ok-opener-clause-no_database
returns-in-Ok-opener-clause-no_database g c = λ base has_base begins.
    if-err c.open_over.result (λ end is. misses_none c.args.database.is_missing c.args.desk.building base _ end.fault is)
    c.open_over.ensures.found

pub returns-then-lacks_database-clause-no_database : goal.returns-then-lacks_database-clause-no_database
returns-then-lacks_database-clause-no_database g c = λ base has_base begins tells.
    let lacks : c.lacks_database.result ≡ true = search rules in
    let same = ap (λ (has : Bool). c.args.database.is_missing && (has || not (is_none c.in-Ok.replayed.last))) has_base in
    misses_deliveries c.args.database.is_missing c.args.desk.building base _ c.in-Ok.replayed.last
    (g.T.Store.standing c.in-Ok.replayed.store) (same ∙ sym c.lacks_database.ensures ∙ lacks)
    (λ earlier bytes begun has. c.in-Ok.ensures.replayed earlier bytes (begins earlier begun) has (c.requires.honest _))
