use Rattle.std.proofs.Common.{◌==◌, rules, tests}
use Rattle.std.proofs.lemmas.Iterator.{YieldsList-from_slice}
use Rattle.std.proofs.lemmas.Iterator.Search.{find_from_yields_List}
use Rattle.panel.proofs.replies.find_entry.Goals as goal

pub returns : goal.returns
returns c =
    let found = find_from_yields_List (λ entry. entry.number == c.args.number) _ _ c.find.result c.find.ensures.ran
    (YieldsList-from_slice c.args.entries.now cc) (λ x b q k. search (rules, tests)) in
    cc (c.copied.ensures, found)
